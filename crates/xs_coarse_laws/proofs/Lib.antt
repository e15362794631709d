pub mod Stretches
pub mod Spelling
pub mod Taming
pub mod Views
pub mod Suspects
