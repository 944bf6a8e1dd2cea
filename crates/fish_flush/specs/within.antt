pub mod Carrying
pub mod Filling
pub mod Linking
pub mod Reading
pub mod Writing
