pub mod Cover
pub mod Gaps
pub mod Intervals
pub mod Laws
pub mod Pieces
pub mod within
