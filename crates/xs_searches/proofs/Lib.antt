pub mod Lightness
pub mod First
pub mod Insides
pub mod Cutting
