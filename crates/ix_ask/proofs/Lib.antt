pub mod AloneLemmas
pub mod AskLemmas
pub mod HeadlineLemmas
pub mod ListingLemmas
pub mod MergingLemmas
pub mod NameLemmas
pub mod OneAnswer
mod TrustLemmas
