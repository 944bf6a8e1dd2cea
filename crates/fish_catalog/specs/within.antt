pub mod Intervals
pub mod Restoring
