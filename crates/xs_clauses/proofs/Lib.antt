pub mod Flags
pub mod Complete
pub mod Growth
pub mod Rows
