pub mod Crossing
pub mod Flushed
pub mod Heads
