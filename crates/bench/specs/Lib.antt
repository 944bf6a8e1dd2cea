pub mod Checkpoints
pub mod Ingests
pub mod Opening
pub mod Registrations
pub mod Stores
