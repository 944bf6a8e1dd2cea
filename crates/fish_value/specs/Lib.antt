pub mod BareWord
pub mod Json
pub mod Limits
pub mod Number
pub mod Outcomes
pub mod Same
pub mod Seen
pub mod ValueText
