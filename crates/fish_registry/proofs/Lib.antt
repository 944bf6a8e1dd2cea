pub mod Beginning
pub mod Binding
pub mod Changing
pub mod Drafts
pub mod Knowing
pub mod Lanes
pub mod Registrations
