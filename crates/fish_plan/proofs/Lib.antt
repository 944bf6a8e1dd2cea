pub mod Building
pub mod Inside
pub mod Lists
pub mod Unique
pub mod Walks
