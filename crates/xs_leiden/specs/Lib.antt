pub mod Sheet
pub mod Draws
pub mod Words
pub mod Made
