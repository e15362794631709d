pub mod FixedApart
pub mod FixedWords
pub mod Parting
pub mod Seeing
