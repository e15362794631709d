pub mod Lists
pub mod Marked
pub mod Sorted
pub mod Running
pub mod Candidates
pub mod Making
