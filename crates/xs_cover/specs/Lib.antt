pub mod Sizes
pub mod Costs
pub mod Laws
pub mod Tables
pub mod Shortest
pub mod Leaves
pub mod Prices
pub mod Picks
pub mod Reading
pub mod Steps
pub mod Kept
-- what other crates' contracts cite
pub use Rattle.xs_cover.specs.Kept.{AreCoversOf}
