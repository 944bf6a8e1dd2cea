pub mod CommitRows
pub mod Ending
pub mod Laws
pub mod Opened
pub mod Points
pub mod Rolling
pub mod Sound
pub mod within
