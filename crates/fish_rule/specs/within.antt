pub mod ChainFacts
pub mod ClosedLog
pub mod Keys
pub mod Logs
pub mod Start
