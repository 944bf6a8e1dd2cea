pub mod basics
pub mod classes
pub mod steps
pub mod laws
