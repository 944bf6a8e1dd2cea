mod Depth
mod Nesting
mod Readings
mod Found
mod Items
mod Elements
pub mod Records
pub mod Short
mod LineParts
