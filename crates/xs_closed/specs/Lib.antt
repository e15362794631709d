pub mod Rows
pub mod Words
pub mod Least
pub mod Search
pub mod Longest
pub mod Laws
pub mod Testing
pub mod Lanes
-- what other crates' contracts cite
pub use Rattle.xs_closed.specs.Rows.{Row, blank, has_number, marked, places, row_then, rows_of}
