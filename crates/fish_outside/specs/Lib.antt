pub mod Bounded
pub mod Causes
pub mod Content
pub mod Memory
pub mod Reading
pub mod within
