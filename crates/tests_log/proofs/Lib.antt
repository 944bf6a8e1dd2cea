pub mod Heads
pub mod Kept
pub mod Scanning
pub mod SeatLemmas
