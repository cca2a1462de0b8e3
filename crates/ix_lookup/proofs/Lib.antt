pub mod EntryLemmas
pub mod FrontLemmas
pub mod MatcherLemmas
pub mod PieceLemmas
pub mod PrefixLemmas
pub mod RowLemmas
pub mod ScanLemmas
pub mod WordsLemmas
