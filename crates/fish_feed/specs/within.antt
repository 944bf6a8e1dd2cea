pub mod OpenFiles
pub mod Queues
