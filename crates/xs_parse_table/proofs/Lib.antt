pub mod Growing
pub mod Building
pub mod Items
pub mod Marks
pub mod Moving
pub mod Readying
pub mod Spans
pub mod Trees
