pub mod Looking
pub mod Records
pub mod Settling
