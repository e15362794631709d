pub mod Finding
pub mod Showing
pub mod Automata
pub mod Linked
pub mod Laying
pub mod Nests
pub mod Alike
