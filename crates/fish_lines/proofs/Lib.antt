pub mod CutLemmas
pub mod KeptLemmas
pub mod LineLemmas
pub mod MarkLemmas
pub mod PartLemmas
pub mod PayloadLemmas
pub mod ResumingLemmas
pub mod SplitLemmas
