pub mod MemoryFeed
pub mod Reading
