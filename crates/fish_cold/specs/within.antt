pub mod Answers
pub mod Cached
pub mod Caching
pub mod Regions
pub mod Shown
