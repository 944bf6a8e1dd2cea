pub mod Logs
pub mod Printed
pub mod Sample
pub mod within
