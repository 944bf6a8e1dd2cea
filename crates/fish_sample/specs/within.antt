-- What private clauses cite, and no promise rests on.
pub mod Blocks
pub mod Files
pub mod Items
pub mod Parts
pub mod Works
