pub mod AsciiLemmas
pub mod LawfulLemmas
pub mod ReadingLemmas
pub mod ScanLemmas
