pub mod Keeping
pub mod Reasons
-- what other crates' contracts cite
pub use Rattle.xs_unique.specs.Keeping.{KeepsUnique}
pub use Rattle.xs_unique.specs.Reasons.{IsReason}
