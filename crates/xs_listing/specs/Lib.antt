pub mod Marks
pub mod Making
pub mod Spelt
pub mod Sizes
pub mod Writing
pub mod Owed
pub mod Numbered
