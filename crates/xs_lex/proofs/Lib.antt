pub mod Truth
mod UnitsRead
pub mod QuotedLaws
mod PatternLaws
mod NameLaws
pub mod BlankLaws
pub mod TokenLaws
pub mod Uniqueness
pub mod Reached
