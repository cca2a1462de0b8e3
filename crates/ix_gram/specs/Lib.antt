pub mod Candidates
pub mod Expanding
pub mod Fronts
pub mod PatternErrors
pub mod Patterns
