pub mod Filling
pub mod Keeping
pub mod Placing
pub mod Sending
pub mod Splitting
