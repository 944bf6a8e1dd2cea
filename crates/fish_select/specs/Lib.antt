pub mod Selection
pub mod within
