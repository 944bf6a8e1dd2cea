pub mod Moments
pub mod Past
pub mod Recorded
pub mod Regions
