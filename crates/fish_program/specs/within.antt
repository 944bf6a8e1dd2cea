-- What private clauses cite, and no promise rests on.
pub mod Answer
pub mod Faults
pub mod Runs
pub mod Selecting
