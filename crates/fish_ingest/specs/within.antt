pub mod Ingestion
pub mod Placement
pub mod Preparation
pub mod Refusal
