pub mod Changing
pub mod Knowing
pub mod Looking
pub mod Refusing
pub mod within
