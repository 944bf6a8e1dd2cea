-- What private clauses cite, and no promise rests on.
pub mod Blocks
pub mod Commits
pub mod Faults
pub mod Going
pub mod Parts
pub mod Rolls
pub mod Running
pub mod Runs
pub mod Saying
pub mod Steps
pub mod Tables
pub mod Turning
