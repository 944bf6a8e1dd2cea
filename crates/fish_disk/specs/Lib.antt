pub mod Calls
pub mod Content
pub mod Crash
pub mod Memory
pub mod within
