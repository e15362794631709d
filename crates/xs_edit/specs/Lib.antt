pub mod Edits
pub mod Sessions
