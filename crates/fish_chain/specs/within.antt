pub mod Links
pub mod Values
pub mod Walks
