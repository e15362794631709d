pub mod Lines
pub mod Patterns
pub mod Members
pub mod Leasts
pub mod Agreement
pub mod Firsts
pub mod Wordless
mod Refusals
mod Soundness
