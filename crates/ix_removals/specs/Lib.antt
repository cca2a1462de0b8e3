pub mod RemovalEntries
pub mod RemovalFaults
pub mod RemovalsText
