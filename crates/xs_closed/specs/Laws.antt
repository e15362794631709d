-- The laws of tables and of least sets.
use Rattle.std.specs.Prelude.{◌≡◌, ℕ, Bool, true, List}
use Rattle.xs_auto.specs.Nets.{Graph, final_at}
use Rattle.xs_auto.specs.Nests.{Group, AreShared}
use Rattle.xs_meet.specs.Closed.{Marked, IsApart, IsClear}
use Rattle.xs_meet.specs.Shared.{IsSharedOver, AreOverlapOver}
use Rattle.xs_closed.specs.Rows.{Grid, Row, IsSized, IsSet, marked, rows_of, holds}
use Rattle.xs_closed.specs.Least.{Meeting, Fronts, Pauses, Middles, Rests}

-- the rows of a table are those of a set, and have exactly the pairs that are marked
abbrev pub RowsAreMarks : Type 0
RowsAreMarks = (high wide : ℕ) (z : Grid) → IsSized high wide z → IsSet high wide (rows_of z) × ((a b : ℕ) → holds (rows_of z) a b ≡ marked z a b)

-- rows that have the same pairs are the same
abbrev pub RowsAreOne : Type 0
RowsAreOne = (high wide : ℕ) (rs ss : List Row) → IsSet high wide rs → IsSet high wide ss → ((a b : ℕ) → holds rs a b ≡ holds ss a b) → rs ≡ ss

-- the pairs of Y are pairs of Z
abbrev pub IsWithin : (ℕ → ℕ → Type 0) → (ℕ → ℕ → Type 0) → Type 0
IsWithin Y Z = (a b : ℕ) → Y a b → Z a b

-- what is reached is right where it has no pair of two final states, and within all that is right;
-- r says which groups may share a word
abbrev pub LeastIsApart : Type 0
LeastIsApart =
    (r : ℕ → ℕ → Bool) (m n : Graph)
    → (((a b : ℕ) → Meeting (Marked r) m n a b → final_at m a ≡ true → final_at n b ≡ true → ⊥) → IsApart (Marked r) m n (Meeting (Marked r) m n))
    × ((z : ℕ → ℕ → Bool) → IsApart (Marked r) m n (Marked z) → IsWithin (Meeting (Marked r) m n) (Marked z))

-- the four least sets of a cut are within four others
pub record AreWithin (R : ℕ → ℕ → Type 0) (front rest : Graph) (z1 z0 z2 z3 : ℕ → ℕ → Bool) : Type 0 where
  pub fronts : IsWithin (Fronts R front) (Marked z1)
  pub pauses : IsWithin (Pauses R front rest) (Marked z0)
  pub middles : IsWithin (Middles R front rest) (Marked z2)
  pub rests : IsWithin (Rests R front rest) (Marked z3)

abbrev pub LeastIsClear : Type 0
LeastIsClear =
    (r : ℕ → ℕ → Bool) (front rest : Graph)
    → (((a b : ℕ) → Rests (Marked r) front rest a b → final_at rest a ≡ true → final_at rest b ≡ true → ⊥) → IsClear (Marked r) front rest (Fronts (Marked r) front) (Pauses (Marked r) front rest) (Middles (Marked r) front rest) (Rests (Marked r) front rest))
    × ((z1 z0 z2 z3 : ℕ → ℕ → Bool) → IsClear (Marked r) front rest (Marked z1) (Marked z0) (Marked z2) (Marked z3) → AreWithin (Marked r) front rest z1 z0 z2 z3)

-- where only groups that share a word are said to, two final states that are reached show a word that
-- both nets accept
abbrev pub ReachedIsShared : Type 0
ReachedIsShared =
    (nest : List Group) (r : ℕ → ℕ → Bool) → ((h k : ℕ) → r h k ≡ true → AreShared nest h k)
    → (m n : Graph) (a b : ℕ) → Meeting (Marked r) m n a b → final_at m a ≡ true → final_at n b ≡ true
    → (w : List ℕ) × IsSharedOver nest m n w

-- and of a cut, words that overlap
abbrev pub ReachedIsOverlap : Type 0
ReachedIsOverlap =
    (nest : List Group) (r : ℕ → ℕ → Bool) → ((h k : ℕ) → r h k ≡ true → AreShared nest h k)
    → (front rest : Graph) (a b : ℕ) → Rests (Marked r) front rest a b → final_at rest a ≡ true → final_at rest b ≡ true
    → (x : List ℕ) × (u : List ℕ) × (y : List ℕ) × AreOverlapOver nest front rest x u y
