-- Closed sets of pairs as lists, and what they show of the views of coarse nets.
use Rattle.std.specs.Prelude.{◌≡◌, ℕ, ◌+◌, ◌<◌, ◌≤◌, Bool, List}
use Rattle.std.specs.List.{All, Contains}
use Rattle.xs_auto.specs.Nets.{Graph}
use Rattle.xs_meet.specs.Closed.{IsClear, Marked}
use Rattle.xs_coarse.specs.Coarse.{Table, Net}
use Rattle.xs_coarse.specs.declared.pair.Pair.{Pair}
use Rattle.xs_coarse.specs.Found.{HasPair, IsInside, pair}
use Rattle.xs_coarse.specs.Tails.{IsWithinAll}
use Rattle.xs_coarse.specs.Arcs.{Slips, Steps, Goes, HasWithin, IsClosedWithin, NeverReturns}

-- the pairs are of states below those numbers, and closed among such, and the goal is not one of them
pub record IsShut (L : ℕ → ℕ → ℕ → ℕ → Type 0) (goal : Pair) (height width : ℕ) (ps : List Pair) : Type 0 where
  pub inside : All (IsInside height width) ps
  pub closed : IsClosedWithin L height width ps
  pub without : Contains ps goal → ⊥

-- the pairs of states up to the top that a net comes to from its first state by words that may be the same;
-- no arc leads back from beyond the top
pub record AreDoubles (t : Table) (n : Net) (top : ℕ) (doubles : List Pair) : Type 0 where
  pub inside : All (IsInside (top + 1) (top + 1)) doubles
  pub starts : HasPair doubles 0 0
  pub closed : IsClosedWithin (Goes t n n) (top + 1) (top + 1) doubles
  pub returns : NeverReturns n (top + 1)

-- where the pair has the state of the cut first, and its second state is none after it, the turns have that
-- one beside the state of the cut
abbrev pub Turns : List Pair → ℕ → Pair → Type 0
Turns turns here p = p.first ≡ here → p.second ≤ here → HasPair turns p.second here

-- where the pair has the state of the cut first, the rests have that one beside its second state
abbrev pub Returns : List Pair → ℕ → Pair → Type 0
Returns rests here p = p.first ≡ here → HasPair rests here p.second

-- the pairs of a front and a rest state before the middle word
pub record AreTurns (n : Net) (here : ℕ) (doubles turns : List Pair) : Type 0 where
  pub inside : All (IsInside (here + 1) n.states) turns
  pub there : All (Turns turns here) doubles
  pub closed : IsClosedWithin (Slips n n) (here + 1) n.states turns

-- where the pair leads by arcs of both nets that may read a common word is among the middles
abbrev pub Leaves : Table → Net → ℕ → List Pair → Pair → Type 0
Leaves t n here middles p = (c d : ℕ) → Steps t n n p.first p.second c d → HasWithin (here + 1) n.states middles c d

-- the pairs of a front and a rest state within the middle word
pub record AreMiddles (t : Table) (n : Net) (here : ℕ) (turns middles : List Pair) : Type 0 where
  pub inside : All (IsInside (here + 1) n.states) middles
  pub there : All (Leaves t n here middles) turns
  pub closed : IsClosedWithin (Goes t n n) (here + 1) n.states middles

-- each state of a front's end, from the gate to the cut, beside each state of the rest
abbrev pub AreEndPairs : Net → ℕ → ℕ → List Pair → Type 0
AreEndPairs n gate here ps = (a b : ℕ) → gate ≤ a → a ≤ here → here ≤ b → b < n.states → HasPair ps a b

-- the same where the middle word may begin at each state of the front's end and of the rest: the end
-- begins at the gate, and may be entered there beside each state of the rest
pub record AreLastMiddles (t : Table) (n : Net) (gate here : ℕ) (middles : List Pair) : Type 0 where
  pub inside : All (IsInside (here + 1) n.states) middles
  pub there : (a b : ℕ) → gate ≤ a → a ≤ here → here ≤ b → b < n.states → Leaves t n here middles (pair a b)
  pub enters : 0 < gate → (b : ℕ) → here < b → b < n.states → HasPair middles gate b
  pub closed : IsClosedWithin (Goes t n n) (here + 1) n.states middles

-- the pairs of two rest states after the middle word, without that of the two last states
pub record AreRests (t : Table) (n : Net) (here last : ℕ) (middles rests : List Pair) : Type 0 where
  pub within : IsWithinAll n
  pub there : All (Returns rests here) middles
  pub shut : IsShut (Goes t n n) (pair last last) n.states n.states rests

-- marks show that a front and a rest do not overlap
abbrev pub AreClear : (ℕ → ℕ → Type 0) → Graph → Graph → Type 0
AreClear R front rest = (z1 : ℕ → ℕ → Bool) × (z0 : ℕ → ℕ → Bool) × (z2 : ℕ → ℕ → Bool) × (z3 : ℕ → ℕ → Bool) × IsClear R front rest (Marked z1) (Marked z0) (Marked z2) (Marked z3)
