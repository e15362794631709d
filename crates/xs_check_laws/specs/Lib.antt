pub mod Words
pub mod Freedom
pub mod Weights
pub mod Acceptance
pub mod Laws
pub mod MoreFences
-- what other crates' contracts cite
pub use Rattle.xs_check_laws.specs.Freedom.{HasNoHorizontal, HasNoVertical}
pub use Rattle.xs_check_laws.specs.Weights.{BodyWeighs, ComponentWeighs, InsidesWeigh, ItemWeighs, Members, PartWeighs, RuleWeighs, cap, capped, heaviest}
pub use Rattle.xs_check_laws.specs.Acceptance.{HasNoSuspect, IsAccepted, IsLight, ShowsHorizontal, ShowsVertical}
