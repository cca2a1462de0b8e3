pub mod CheckedLists
pub mod NextPostings
pub mod SeenTokens
pub mod TokenMarks
pub mod TokenTables
