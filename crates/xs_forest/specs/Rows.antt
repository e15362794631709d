-- What contracts see of a forest: the list of its rows.
use Rattle.std.specs.Prelude.{◌≡◌, ℕ, ◌<◌, List, [], ◌∷◌, Option, None, Some, map, slice_get}
use Rattle.std.specs.Borrow.{Bor}
use Rattle.xs_forest.specs.declared.row.Alt.{Alt}

-- each row is its label with its alternatives
abbrev pub Rows : Type 0 → Type 0
Rows L = List (L × List Alt)

-- the rows whose alternatives the references point to
abbrev pub rows_of : {L : Type 0} → List (L × Bor (List Alt)) → Rows L
rows_of entries = map (λ e. (e.0, e.1.now)) entries

-- a child's number is below the number of rows
abbrev pub IsEarlier : Option ℕ → ℕ → Type 0
IsEarlier None rows = Unit {0}
IsEarlier (Some child) rows = child < rows

-- and so is each child's of the alternatives
abbrev pub AreEarlier : List Alt → ℕ → Type 0
AreEarlier [] rows = Unit {0}
AreEarlier (alt ∷ alts) rows = IsEarlier alt.left rows × IsEarlier alt.right rows × AreEarlier alts rows

-- the row has the label
abbrev pub HasLabel : {L : Type 0} → Rows L → ℕ → L → Type 0
HasLabel rows at label = (alts : List Alt) × (slice_get rows at ≡ Some (label, alts))

-- no two rows have one label
abbrev pub AreOnce : {L : Type 0} → Rows L → Type 0
AreOnce {L} rows = (j k : ℕ) (label : L) → HasLabel rows j label → HasLabel rows k label → j ≡ k

-- the children of each row stand before it
abbrev pub AreBelow : {L : Type 0} → Rows L → Type 0
AreBelow {L} rows = (at : ℕ) (label : L) (alts : List Alt) → slice_get rows at ≡ Some (label, alts) → AreEarlier alts at
