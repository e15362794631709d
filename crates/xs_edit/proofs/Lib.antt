pub mod Prefixes
pub mod Trees
