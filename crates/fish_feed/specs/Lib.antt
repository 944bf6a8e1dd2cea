pub mod Giving
pub mod OpenFiles
pub mod Parts
pub mod Queues
pub mod Works
pub mod within
