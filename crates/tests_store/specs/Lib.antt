pub mod Flushing
pub mod Heads
