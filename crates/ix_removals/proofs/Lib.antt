pub mod LineLemmas
pub mod RemovedLemmas
pub mod TextLemmas
