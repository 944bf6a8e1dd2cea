pub mod Links
pub mod Values
pub mod Walks
pub mod within
