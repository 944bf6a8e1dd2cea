-- What private clauses cite, and no promise rests on.
pub mod Selection
pub mod Found
