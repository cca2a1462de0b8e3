pub mod Building
pub mod Commands
pub mod Entered
pub mod Forms
pub mod Help
pub mod LineErrors
pub mod Lines
pub mod WorkedLines
