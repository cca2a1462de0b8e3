pub mod AlikeLemmas
pub mod AskedLemmas
pub mod KeptLemmas
pub mod KeptParts
