pub mod Held
pub mod Kept
pub mod Answers
pub mod Sheets
pub mod Works
pub mod Runs
