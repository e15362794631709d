pub mod Advancing
pub mod Different
pub mod Grouping
pub mod Sets
pub mod States
