pub mod Progress
pub mod Reading
pub mod Regions
pub mod Steps
pub mod Terms
