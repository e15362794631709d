pub mod Laws
pub mod Stops
pub mod Tables
pub mod Turned
-- what other crates' contracts cite
pub use Rattle.xs_turn.specs.Turned.{FitsBoth}
