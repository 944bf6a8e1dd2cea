pub mod Ingestion
pub mod Laws
pub mod Passing
pub mod Placement
pub mod Preparation
pub mod Refusal
pub mod within
