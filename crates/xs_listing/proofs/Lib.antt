pub mod Children
pub mod Marking
pub mod Filling
pub mod Gathering
pub mod Preparing
pub mod Sums
pub mod Walking
pub mod Spelling
pub mod Sizing
pub mod Sized
pub mod Owing
mod Ending
