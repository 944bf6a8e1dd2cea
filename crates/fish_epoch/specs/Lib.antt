pub mod Definitions
pub mod Entering
pub mod Rows
pub mod within
