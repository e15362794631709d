-- Lists of lists kept flat, by where each list ends.
use Rattle.std.specs.Prelude.{◌≡◌, ℕ, zero, suc, ◌≤◌, List, [], ◌∷◌, slice_range, slice_index_or}

-- the lists from a place on, each of which ends at the next of these places
abbrev pub lists_from : {A : Type 0} → List A → ℕ → List ℕ → List (List A)
lists_from all from [] = []
lists_from all from (end ∷ ends) = slice_range all from end ∷ lists_from all end ends

-- the ends rise from a place on, and the last one is given
abbrev pub Rise : ℕ → List ℕ → ℕ → Type 0
Rise from [] last = from ≡ last
Rise from (end ∷ ends) last = (from ≤ end) × Rise end ends last

-- where list k begins: where the one before it ends
abbrev pub begin_of : ℕ → List ℕ → ℕ → ℕ
begin_of from ends zero = from
begin_of from ends (suc k) = slice_index_or ends k 0
