pub mod Answered
pub mod Bodies
pub mod Claims
pub mod Filled
pub mod Fills
pub mod Known
