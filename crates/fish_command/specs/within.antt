-- What private clauses cite, and no promise rests on.
pub mod Matched
pub mod Parts
pub mod Reading
