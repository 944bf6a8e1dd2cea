pub mod Beginning
pub mod Choosing
pub mod Opening
pub mod RefusalText
pub mod Stores
pub mod within
