pub mod Memory
pub mod Sure
