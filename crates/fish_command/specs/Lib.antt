pub mod Command
pub mod Laws
pub mod Line
pub mod Options
pub mod RefusalText
pub mod Request
pub mod Sizes
pub mod within
