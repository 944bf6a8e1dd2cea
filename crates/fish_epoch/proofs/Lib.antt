pub mod Crossing
pub mod Ended
pub mod Outcomes
pub mod Reading
pub mod Rounds
pub mod Texts
