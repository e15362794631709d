-- How many leading rows of a set are right, at most.
use Rattle.std.specs.Prelude.{ℕ, ◌≤◌, take, Option, None, Some}
use Rattle.xs_auto.specs.Nets.{Graph, states}
use Rattle.xs_meet.specs.Closed.{Marked, IsApart, IsClear}
use Rattle.xs_closed.specs.Rows.{Grid, IsSized, rows_of, holds}
use Rattle.xs_closed.specs.declared.sets.CutSets.{CutSets}

-- the pairs of the first rows of the table
abbrev pub First : Grid → ℕ → ℕ → ℕ → Type 0
First z j = Marked (holds (take j (rows_of z)))

-- the pairs of the table
abbrev pub Holds : Grid → ℕ → ℕ → Type 0
Holds z = Marked (holds (rows_of z))

-- the number is the greatest of those up to a bound that have the property
pub record IsGreatest (most : ℕ) (P : ℕ → Type 0) (j : ℕ) : Type 0 where
  pub within : j ≤ most
  pub is : P j
  pub greatest : (i : ℕ) → i ≤ most → P i → i ≤ j

-- the greatest such number, if there is one
abbrev pub IsGreatestIn : ℕ → (ℕ → Type 0) → Option ℕ → Type 0
IsGreatestIn most P None = (i : ℕ) → i ≤ most → P i → ⊥
IsGreatestIn most P (Some j) = IsGreatest most P j

-- the first rows of the table show that the two nets share no word
abbrev pub IsApartBy : (ℕ → ℕ → Type 0) → Graph → Graph → Grid → ℕ → Type 0
IsApartBy R m n z j = IsApart R m n (First z j)

-- the sets, the last one by its first rows, show that there is no overlap
abbrev pub IsClearBy : (ℕ → ℕ → Type 0) → Graph → Graph → CutSets → ℕ → Type 0
IsClearBy R front rest s j = IsClear R front rest (Holds s.fronts) (Holds s.pauses) (Holds s.middles) (First s.rests j)

-- the tables are for the states of the nets of a cut
pub record AreSized (front rest : Graph) (s : CutSets) : Type 0 where
  pub fronts : IsSized (states front) (states front) s.fronts
  pub pauses : IsSized (states front) (states rest) s.pauses
  pub middles : IsSized (states front) (states rest) s.middles
  pub rests : IsSized (states rest) (states rest) s.rests
