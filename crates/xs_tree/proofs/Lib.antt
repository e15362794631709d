pub mod Trees
pub mod Counting
pub mod Rows
pub mod Longer
mod Shapes
mod Numbering
