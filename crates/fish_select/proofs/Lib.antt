pub mod LineLemmas
pub mod PartLemmas
mod RowLemmas
mod SelectionLemmas
