pub mod File
pub mod Left
pub mod Lines
pub mod Open
pub mod Resuming
pub mod Split
pub mod Texts
pub mod within
