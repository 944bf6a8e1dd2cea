pub mod JsonLemmas
pub mod NumberLemmas
pub mod SameLemmas
