pub mod FirstBytes
pub mod Fates
pub mod Laws
pub mod Stores
pub mod Samples
pub mod Selecting
