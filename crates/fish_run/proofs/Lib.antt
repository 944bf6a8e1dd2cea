pub mod Blocks
pub mod Caused
pub mod Closing
pub mod CommitRows
pub mod Ends
pub mod Faults
pub mod Giving
pub mod Going
pub mod Keeping
pub mod Lines
pub mod Lists
pub mod One
mod Room
mod Rounding
mod SaidLemmas
pub mod Shown
pub mod Stepping
pub mod Tables
pub mod Turns
pub mod Works
pub mod Written
