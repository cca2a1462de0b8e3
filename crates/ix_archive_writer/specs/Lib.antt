pub mod Changes
pub mod Commits
pub mod Errors
pub mod Readings
pub mod Takings
