pub mod Members
pub mod ScanLemmas
