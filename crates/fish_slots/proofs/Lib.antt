pub mod Commits
pub mod Keeping
pub mod Reading
