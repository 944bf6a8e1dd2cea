pub mod Machine
pub mod Moves
pub mod Outcome
pub mod Views
