pub mod Lines
pub mod Open
