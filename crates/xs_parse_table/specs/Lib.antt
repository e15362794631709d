pub mod Moves
pub mod Nodes
pub mod Rows
pub mod Tables
pub mod Validators
-- what other crates' contracts cite
pub use Rattle.xs_parse_table.specs.Tables.{IsTreeOf}
