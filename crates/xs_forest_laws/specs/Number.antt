-- The unfoldings of a row by number, with counts that stop at a cap.
use Rattle.std.specs.Prelude.{◌≡◌, ℕ, zero, suc, ◌+◌, ◌*◌, ◌<◌, ◌≤◌, List, [], ◌∷◌, length, take, min, None, Some, slice_get, slice_index_or}
use Rattle.std.specs.declared.option.Option.{Option}
use Rattle.xs_forest.specs.declared.row.Alt.{Alt}
use Rattle.xs_forest_laws.specs.Forest.{Forest, alts_of, Unfolding, bare, pick}

-- how many unfoldings a child has, one where there is no child
abbrev pub count_of : List ℕ → Option ℕ → ℕ
count_of cs None = suc zero
count_of cs (Some r) = slice_index_or cs r zero

-- how many an alternative has, and no more than the cap
abbrev pub alt_count : ℕ → List ℕ → Alt → ℕ
alt_count cap cs a = min cap (count_of cs a.left * count_of cs a.right)

-- the alternatives' counts, added, and no more than the cap
abbrev pub alts_count : ℕ → List ℕ → List Alt → ℕ
alts_count cap cs [] = zero
alts_count cap cs (a ∷ more) = min cap (alt_count cap cs a + alts_count cap cs more)

-- the alternatives' counts, added
abbrev pub alts_sum : ℕ → List ℕ → List Alt → ℕ
alts_sum cap cs [] = zero
alts_sum cap cs (a ∷ more) = alt_count cap cs a + alts_sum cap cs more

-- each row's count is that of its alternatives
abbrev pub IsCounted : Forest → ℕ → List ℕ → Type 0
IsCounted f cap cs = (r : ℕ) → r < length f → slice_index_or cs r zero ≡ alts_count cap cs (alts_of f r)

-- u is the unfolding number k of the row: those of earlier alternatives come first, and within an alternative
-- those of its left child, each with all those of its right child
abbrev pub At : Forest → ℕ → List ℕ → Option ℕ → ℕ → Unfolding → Type 0
At f cap cs None k bare = k ≡ zero
At f cap cs None k (pick a l t) = ⊥
At f cap cs (Some r) k bare = ⊥
At f cap cs (Some r) k (pick a l t) = (r < length f) × (n : ℕ) × (x : ℕ) × (y : ℕ) × (slice_get (alts_of f r) n ≡ Some a) × (y < count_of cs a.right) × (x * count_of cs a.right + y < alt_count cap cs a) × (k ≡ alts_sum cap cs (take n (alts_of f r)) + (x * count_of cs a.right + y)) × At f cap cs a.left x l × At f cap cs a.right y t

-- the counts are those of that many first rows
abbrev pub AreCounts : Forest → ℕ → List ℕ → Type 0
AreCounts f cap cs = (length cs ≤ length f) × ((r : ℕ) → r < length cs → slice_index_or cs r zero ≡ alts_count cap cs (alts_of f r))

-- Unfolding number k of the alternatives is of alternative n, by unfolding number x of its left child and
-- number y of its right child.
pub record IsChosen (cap : ℕ) (cs : List ℕ) (alts : List Alt) (k n x y : ℕ) (a : Alt) : Type 0 where
  pub alt : slice_get alts n ≡ Some a
  pub within : y < count_of cs a.right
  pub both : x * count_of cs a.right + y < alt_count cap cs a
  pub number : k ≡ alts_sum cap cs (take n alts) + (x * count_of cs a.right + y)
