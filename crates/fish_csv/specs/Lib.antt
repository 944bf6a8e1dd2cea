pub mod Contents
pub mod Left
pub mod Reading
pub mod Row
pub mod Rows
pub mod within
