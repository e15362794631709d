-- The least sets of pairs of states that are closed: those pairs that are reached.
use Rattle.std.specs.Prelude.{◌≡◌, ◌↔◌, ℕ, true, Some}
use Rattle.xs_auto.specs.Nets.{Graph, states, final_at}
use Rattle.xs_meet.specs.declared.seat.Seat.{Seat}
use Rattle.xs_meet.specs.declared.seat.Seat.TheVariants.{First, Second}
use Rattle.xs_meet.specs.Closed.{Drifts, Strides, Leads, Marked}
use Rattle.xs_meet.specs.Seats.{start_of, other_of}
use Rattle.xs_closed.specs.Rows.{Grid, marked, IsSized}
use Rattle.xs_closed.specs.declared.sets.CutSets.{CutSets}

-- the pairs to which L leads from those of S, in any number of steps
pub data Reach (S : ℕ → ℕ → Type 0) (L : ℕ → ℕ → ℕ → ℕ → Type 0) : ℕ → ℕ → Type 0 where
  begun : {a b : ℕ} → S a b → Reach S L a b
  led : {a b c d : ℕ} → Reach S L a b → L a b c d → Reach S L c d

-- the pair of the two starts
pub record AreStarts (m n : Graph) (a b : ℕ) : Type 0 where
  pub first : m.start ≡ Some a
  pub second : n.start ≡ Some b

-- of a and b one is the start of the rest, and the other the set has beside a final state of the front
pub record IsPast (seat : Seat) (front rest : Graph) (Z : ℕ → ℕ → Type 0) (a b : ℕ) : Type 0 where
  pub state : ℕ
  pub within : Z state (other_of seat a b)
  pub final : final_at front state ≡ true
  pub starts : rest.start ≡ Some (start_of seat a b)

-- the start of the rest is the second of them
abbrev pub IsPastFront : Graph → Graph → (ℕ → ℕ → Type 0) → ℕ → ℕ → Type 0
IsPastFront = IsPast Second

-- or the first
abbrev pub IsPastMiddle : Graph → Graph → (ℕ → ℕ → Type 0) → ℕ → ℕ → Type 0
IsPastMiddle = IsPast First

-- edges or calls lead from a pair of the set to this one
pub record IsStride (R : ℕ → ℕ → Type 0) (front rest : Graph) (Z : ℕ → ℕ → Type 0) (c d : ℕ) : Type 0 where
  pub front_state : ℕ
  pub rest_state : ℕ
  pub within : Z front_state rest_state
  pub stride : Strides R front rest front_state rest_state c d

-- the least set that has the two starts and is closed
abbrev pub Meeting : (ℕ → ℕ → Type 0) → Graph → Graph → ℕ → ℕ → Type 0
Meeting R m n = Reach (AreStarts m n) (Leads R m n)

-- the four least sets of a cut
abbrev pub Fronts : (ℕ → ℕ → Type 0) → Graph → ℕ → ℕ → Type 0
Fronts R front = Meeting R front front

abbrev pub Pauses : (ℕ → ℕ → Type 0) → Graph → Graph → ℕ → ℕ → Type 0
Pauses R front rest = Reach (IsPastFront front rest (Fronts R front)) (Drifts front rest)

abbrev pub Middles : (ℕ → ℕ → Type 0) → Graph → Graph → ℕ → ℕ → Type 0
Middles R front rest = Reach (IsStride R front rest (Pauses R front rest)) (Leads R front rest)

abbrev pub Rests : (ℕ → ℕ → Type 0) → Graph → Graph → ℕ → ℕ → Type 0
Rests R front rest = Reach (IsPastMiddle front rest (Middles R front rest)) (Leads R rest rest)

-- the table is for the states of the two nets, and marks exactly the pairs of the set
pub record IsTableOf (Z : ℕ → ℕ → Type 0) (m n : Graph) (z : Grid) : Type 0 where
  pub sized : IsSized (states m) (states n) z
  pub marks : (a b : ℕ) → Marked (marked z) a b ↔ Z a b

-- the tables mark the four least sets of a cut
pub record AreLeastOf (R : ℕ → ℕ → Type 0) (front rest : Graph) (s : CutSets) : Type 0 where
  pub fronts : IsTableOf (Fronts R front) front front s.fronts
  pub pauses : IsTableOf (Pauses R front rest) front rest s.pauses
  pub middles : IsTableOf (Middles R front rest) front rest s.middles
  pub rests : IsTableOf (Rests R front rest) rest rest s.rests
