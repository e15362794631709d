-- A walk over an unfolding with a stack of its own, and the flat list that it writes.
use Rattle.std.specs.Prelude.{◌≡◌, ℕ, List, [], ◌∷◌, Some, slice_get, slice_range}
use Rattle.std.specs.declared.option.Option.{Option}
use Rattle.xs_gram.specs.Grammar.{Grammar}
use Rattle.xs_gram.specs.Derivations.{Parts, done, fixed, leaf, skip, sub}
use Rattle.xs_chart_laws.specs.Parts.{parts_then}
use Rattle.xs_forest_laws.specs.Forest.{Forest, Unfolding, read}

-- What is still to be done: an unfolding whose parts come next, a part, and the end of a node of a rule.
pub data Tasks : Type 0 where
  no_task : Tasks
  visit : Option ℕ → Unfolding → Tasks → Tasks
  word : Parts → Tasks → Tasks
  close : ℕ → Tasks → Tasks

-- what the tasks make of the open node's parts so far, and of those of the nodes around it
abbrev pub end_of_walk : Grammar → List ℕ → Forest → Tasks → Parts → List Parts → Parts
end_of_walk g w f no_task ps around = ps
end_of_walk g w f (visit o u ts) ps around = end_of_walk g w f ts (parts_then ps (read g w f o u)) around
end_of_walk g w f (word rs ts) ps around = end_of_walk g w f ts (parts_then ps rs) around
end_of_walk g w f (close q ts) ps [] = ps
end_of_walk g w f (close q ts) ps (qs ∷ around) = end_of_walk g w f ts (parts_then qs (sub q ps done)) around

-- The parts of a flat list, children before parents: a node of a rule with the places of its kids in the
-- list, and the stretches of the words of terminals and ignorables.
pub data Flat : Type 0 where
  node : ℕ → List ℕ → Flat
  leaf_at : ℕ → ℕ → Flat
  skip_at : ℕ → ℕ → Flat

-- the places, in the flat list, of the parts that are no fixed words
abbrev pub AreAt : List ℕ → List Flat → Parts → List ℕ → Type 0
AreAt w out done vs = vs ≡ []
AreAt w out (fixed u ps) vs = AreAt w out ps vs
AreAt w out (leaf u ps) vs = (v : ℕ) × (i : ℕ) × (j : ℕ) × (us : List ℕ) × (vs ≡ v ∷ us) × (slice_get out v ≡ Some (leaf_at i j)) × (slice_range w i j ≡ u) × AreAt w out ps us
AreAt w out (skip u ps) vs = (v : ℕ) × (i : ℕ) × (j : ℕ) × (us : List ℕ) × (vs ≡ v ∷ us) × (slice_get out v ≡ Some (skip_at i j)) × (slice_range w i j ≡ u) × AreAt w out ps us
AreAt w out (sub q qs ps) vs = (v : ℕ) × (kids : List ℕ) × (us : List ℕ) × (vs ≡ v ∷ us) × (slice_get out v ≡ Some (node q kids)) × AreAt w out qs kids × AreAt w out ps us
