pub mod Cleared
pub mod Entry
pub mod Header
pub mod Outline
