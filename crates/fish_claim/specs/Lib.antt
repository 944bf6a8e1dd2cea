pub mod Claims
pub mod Fills
pub mod within
