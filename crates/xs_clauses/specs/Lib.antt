pub mod Made
pub mod Search
-- what other crates' contracts cite
pub use Rattle.xs_clauses.specs.Made.{AreBelow, AreFlags, IsBelow}
