-- The derivations of a document by their numbers, written flat.
use Rattle.std.specs.Prelude.{◌≡◌, ℕ, List, length, Some, slice_get}
use Rattle.xs_gram.specs.Derivations.{done, sub, Derivation}
use Rattle.xs_forest_laws.specs.Forest.{Unfolding, read}
use Rattle.xs_forest_laws.specs.Number.{At}
use Rattle.xs_listing.specs.declared.spelt.SpeltPart.{SpeltPart}
use Rattle.xs_listing.specs.declared.write.Source.{Source}
use Rattle.xs_listing.specs.Spelt.{IsSpeltOf, AreSpeltOf}

-- the derivation is read from the root's unfolding of the number
abbrev pub IsNumbered : Source → ℕ → ℕ → Derivation → Type 0
IsNumbered s root number d = (u : Unfolding) × At s.forest.now s.cap s.counts.now (Some root) number u × (read s.g.now s.doc.now s.forest.now (Some root) u ≡ sub d.rule d.parts done)

-- the list is the derivation of the number written flat
pub record IsSpeltBy (s : Source) (root number : ℕ) (spelt : List SpeltPart) : Type 0 where
  pub derivation : Derivation
  pub numbered : IsNumbered s root number derivation
  pub spelt_is : IsSpeltOf s.doc.now spelt derivation

-- the lists are that many first derivations written flat
pub record AreSpeltBy (s : Source) (root count : ℕ) (trees : List (List SpeltPart)) : Type 0 where
  pub derivations : List Derivation
  pub long : length derivations ≡ count
  pub numbered : (k : ℕ) (d : Derivation) → slice_get derivations k ≡ Some d → IsNumbered s root k d
  pub spelt_are : AreSpeltOf s.doc.now trees derivations
