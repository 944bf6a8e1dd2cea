pub mod Knowing
pub mod Looking
pub mod Refusing
pub mod Rows
