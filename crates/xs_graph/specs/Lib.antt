pub mod Graphs
pub mod States
