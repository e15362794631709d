pub mod Labels
pub mod Pushed
pub mod Refused
