pub mod Entries
pub mod Parts
pub mod Prefixes
pub mod Tables
pub mod Wholes
