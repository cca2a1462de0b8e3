pub mod FolderNames
pub mod Publishing
pub mod PublishErrors
pub mod Standings
