pub mod ScanLaws
pub mod ScansWithout
