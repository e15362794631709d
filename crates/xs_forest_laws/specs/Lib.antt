pub mod Forest
pub mod Grown
pub mod Adding
pub mod Order
pub mod Placed
pub mod First
pub mod Number
pub mod Listing
pub mod Walk
pub mod Laws
-- what other crates' contracts cite
pub use Rattle.xs_forest_laws.specs.Forest.{IsRight, IsRow, Unfolding, alts_of, end_of, item_of, key_at, key_of, read}
pub use Rattle.xs_forest_laws.specs.Grown.{IsGrown, ItemOver}
pub use Rattle.xs_forest_laws.specs.First.{IsFirst}
pub use Rattle.xs_forest_laws.specs.Number.{At, IsChosen, IsCounted, alt_count, alts_count, count_of}
pub use Rattle.xs_forest_laws.specs.Laws.{IsExact, IsForestOf, IsRoot}
