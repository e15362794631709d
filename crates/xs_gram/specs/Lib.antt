pub mod Grammar
pub mod Fences
pub mod Derivations
pub mod Common
pub mod Languages
pub mod Chart
pub mod Laws
pub mod Sound
pub mod Loose
pub mod Suspects
pub mod Spreading
pub mod Cuts
pub mod Places
pub mod Building
-- what other crates' contracts cite
pub use Rattle.xs_gram.specs.Grammar.{IsRuleOf, IsSkipWord, IsTermWord, ItemAt, items, rule_of, skip_of, slots, term_of}
pub use Rattle.xs_gram.specs.Fences.{IsLevel, IsPlain, IsUnfenced, is_fence, is_left, spread}
pub use Rattle.xs_gram.specs.Derivations.{Derivation}
pub use Rattle.xs_gram.specs.Common.{TreeFits, kinds, lookup, made, named, print, spelling, strip, word}
pub use Rattle.xs_gram.specs.Languages.{Derives, HasTree, InLang, IsFront, IsUnique, IsViable}
pub use Rattle.xs_gram.specs.Laws.{Every, HasNumberedSlots}
pub use Rattle.xs_gram.specs.Sound.{DerivesItself, IsBuilt, IsInRange, IsSound}
pub use Rattle.xs_gram.specs.Loose.{AreComponents, AreOne}
pub use Rattle.xs_gram.specs.Suspects.{IsHorizontal, IsVertical}
pub use Rattle.xs_gram.specs.Spreading.{opens}
pub use Rattle.xs_gram.specs.Cuts.{CutsAt}
pub use Rattle.xs_gram.specs.Places.{IsPlace, all_places, at_dot}
pub use Rattle.xs_gram.specs.Building.{EachOf, IsFit, NamesAreThere, NamesThere}
