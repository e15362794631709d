pub mod Causes
pub mod First
pub mod Insides
pub mod Searching
pub mod Spaces
-- what other crates' contracts cite
pub use Rattle.xs_searches.specs.Causes.{IsCause}
pub use Rattle.xs_searches.specs.Searching.{OverlapsAt}
pub use Rattle.xs_searches.specs.Spaces.{IsRuleNet, IsSite}
