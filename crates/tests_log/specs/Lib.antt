pub mod Bodies
pub mod Heads
pub mod Lanes
pub mod Registering
pub mod Walks
