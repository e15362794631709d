-- Words at places of a document.
use Rattle.std.specs.Prelude.{◌≡◌, ℕ, suc, List, [], ◌∷◌, slice_get, Some}

-- the word u stands in w from place i up to place j
abbrev pub Reads : List ℕ → ℕ → List ℕ → ℕ → Type 0
Reads w i [] j = i ≡ j
Reads w i (x ∷ u) j = (slice_get w i ≡ Some x) × Reads w (suc i) u j
