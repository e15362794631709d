pub mod Fitting
pub mod Kids
pub mod Nodes
pub mod Sides
