pub mod Looks
pub mod Settling
pub mod within
