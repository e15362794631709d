-- Derivations written flat, and listings of them.
use Rattle.std.specs.Prelude.{◌≡◌, ℕ, ◌<◌, ◌≤◌, List, [], ◌∷◌, ◌++◌, length, map, All, Some, slice_get}
use Rattle.xs_gram.specs.Grammar.{Grammar}
use Rattle.xs_gram.specs.Derivations.{Derivation}
use Rattle.xs_forest_laws.specs.Walk.{Flat, node, leaf_at, skip_at, AreAt}
use Rattle.xs_forest_laws.specs.Listing.{IsListed}
use Rattle.xs_listing.specs.declared.spelt.SpeltPart.{SpeltPart}
use Rattle.xs_listing.specs.declared.spelt.SpeltPart.TheVariants.{Node, Leaf, Skip}
use Rattle.xs_listing.specs.declared.spelt.Listing.{Listing}

-- a part as one of a flat list
abbrev pub flat_of : SpeltPart → Flat
flat_of (Node p kids) = node p kids
flat_of (Leaf i j) = leaf_at i j
flat_of (Skip i j) = skip_at i j

-- as part k of a list over a document of that many symbols, a node stands after its kids, and a stretch lies
-- within the document
abbrev pub IsInOrder : ℕ → ℕ → SpeltPart → Type 0
IsInOrder symbols k (Node p kids) = All (λ v. v < k) kids
IsInOrder symbols k (Leaf i j) = (i ≤ j) × (j ≤ symbols)
IsInOrder symbols k (Skip i j) = (i ≤ j) × (j ≤ symbols)

abbrev pub AreInOrder : List ℕ → List SpeltPart → Type 0
AreInOrder w parts = (k : ℕ) (part : SpeltPart) → slice_get parts k ≡ Some part → IsInOrder (length w) k part

-- The list is the derivation written flat: the last part is a node of its rule, whose kids are the parts of
-- the derivation that are no fixed words, in order, down to words.
pub record IsSpeltOf (w : List ℕ) (spelt : List SpeltPart) (d : Derivation) : Type 0 where
  pub before : List SpeltPart
  pub kids : List ℕ
  pub root_last : spelt ≡ before ++ Node d.rule kids ∷ []
  pub kids_at : AreAt w (map flat_of spelt) d.parts kids
  pub in_order : AreInOrder w spelt

-- the lists are the derivations written flat, one for each
abbrev pub AreSpeltOf : List ℕ → List (List SpeltPart) → List Derivation → Type 0
AreSpeltOf w [] [] = Unit {0}
AreSpeltOf w (s ∷ ss) (d ∷ ds) = IsSpeltOf w s d × AreSpeltOf w ss ds
AreSpeltOf w _ _ = ⊥

-- The listing has different derivations of the document, as many as there are and no more than a given number, and
-- says exactly where there are more.
pub record IsListingOf (g : Grammar) (w : List ℕ) (max : ℕ) (l : Listing) : Type 0 where
  pub derivations : List Derivation
  pub listed : IsListed g w max derivations l.more
  pub spelt : AreSpeltOf w l.trees derivations
