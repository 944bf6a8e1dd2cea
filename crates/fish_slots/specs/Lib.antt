pub mod Commits
pub mod Offsets
pub mod Slots
