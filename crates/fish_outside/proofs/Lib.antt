pub mod CauseLemmas
pub mod SourceLemmas
pub mod ContentLemmas
