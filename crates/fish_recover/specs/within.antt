pub mod Choosing
pub mod Opening
pub mod Resting
pub mod Stores
