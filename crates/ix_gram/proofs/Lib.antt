pub mod Ascending
pub mod Cuts
pub mod Found
pub mod FrontLemmas
pub mod Merging
pub mod PatternGrams
pub mod Splittings
