pub mod Turning
pub mod Rows
pub mod Sweeping
pub mod Fixing
pub mod Paging
pub mod Interning
pub mod Alphabets
