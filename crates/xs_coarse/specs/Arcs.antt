-- How the arcs of two coarse nets lead from a pair of states to others.
use Rattle.std.specs.Prelude.{◌≡◌, ℕ, ◌<◌, ◌≤◌, ◌⊎◌, true, List, slice_get, Option, Some, None}
use Rattle.std.specs.List.{All}
use Rattle.xs_coarse.specs.declared.arc.Arc.{Arc}
use Rattle.xs_coarse.specs.Coarse.{Table, Net, HasArc, may_meet}
use Rattle.xs_coarse.specs.declared.pair.Pair.{Pair}
use Rattle.xs_coarse.specs.declared.found.Found.{Found}
use Rattle.xs_coarse.specs.Found.{HasPair}

-- an arc of the first net that reads nothing leads from the pair of a and b to that of c and d
pub record SlipsFirst (m : Net) (a b c d : ℕ) : Type 0 where
  pub arc : HasArc m a 0 c
  pub still : d ≡ b

-- an arc of the second net does
pub record SlipsSecond (n : Net) (a b c d : ℕ) : Type 0 where
  pub arc : HasArc n b 0 d
  pub still : c ≡ a

-- an arc of either net that reads nothing does
abbrev pub Slips : Net → Net → ℕ → ℕ → ℕ → ℕ → Type 0
Slips m n a b c d = SlipsFirst m a b c d ⊎ SlipsSecond n a b c d

-- arcs of both nets that may read a common word lead from the pair of a and b to that of c and d
pub record Steps (t : Table) (m n : Net) (a b c d : ℕ) : Type 0 where
  pub label : ℕ
  pub other : ℕ
  pub first : HasArc m a label c
  pub second : HasArc n b other d
  pub reads_first : 0 < label
  pub reads_second : 0 < other
  pub meet : may_meet t label other ≡ true

-- an arc of one net that reads nothing, or arcs of both that may read a common word
abbrev pub Goes : Table → Net → Net → ℕ → ℕ → ℕ → ℕ → Type 0
Goes t m n a b c d = Slips m n a b c d ⊎ Steps t m n a b c d

-- the pairs have this one, if its states are below those numbers
abbrev pub HasWithin : ℕ → ℕ → List Pair → ℕ → ℕ → Type 0
HasWithin height width ps a b = a < height → b < width → HasPair ps a b

-- the same of what was found, and of the states that are looked at
abbrev pub HasFound : Found → ℕ → ℕ → Type 0
HasFound f a b = HasWithin f.height f.width f.pairs.items a b

-- the pair was found, if there is one
abbrev pub HasTarget : Found → Option Pair → Type 0
HasTarget f (Some p) = HasFound f p.first p.second
HasTarget f None = Unit {0}

-- the pair that a function gives for an element was found, if it gives one
pub record HasGiven {X : Type 0} (Gives : X → Option Pair → Type 0) (f : Found) (x : X) : Type 0 where
  pub target : Option Pair
  pub given : Gives x target
  pub there : HasTarget f target

-- so it is for each element
pub record HasAllGiven {X : Type 0} (Gives : X → Option Pair → Type 0) (f : Found) (xs : List X) : Type 0 where
  pub each : All (HasGiven Gives f) xs

-- where both arcs read something, and may read a common word, their two targets were found
abbrev pub Joins : Table → Found → Arc → Arc → Type 0
Joins t f x y = 0 < x.label → 0 < y.label → may_meet t x.label y.label ≡ true → HasFound f x.to y.to

-- each pair to which L leads from the pair of a and b was found
abbrev pub HasAll : (ℕ → ℕ → ℕ → ℕ → Type 0) → ℕ → ℕ → Found → Type 0
HasAll L a b f = (c d : ℕ) → L a b c d → HasFound f c d

-- each pair before place k that leads to another has it among those that were found
abbrev pub IsClosedBelow : (ℕ → ℕ → ℕ → ℕ → Type 0) → ℕ → Found → Type 0
IsClosedBelow L k f = (i : ℕ) (p : Pair) → i < k → slice_get f.pairs.items i ≡ Some p → HasAll L p.first p.second f

-- with a pair, the pairs have each to which L leads from it, and whose states are below those numbers
abbrev pub IsClosedWithin : (ℕ → ℕ → ℕ → ℕ → Type 0) → ℕ → ℕ → List Pair → Type 0
IsClosedWithin L height width ps = (a b c d : ℕ) → HasPair ps a b → L a b c d → HasWithin height width ps c d

-- the states that are looked at are those of the two nets below some numbers
pub record IsFor (m n : Net) (f : Found) : Type 0 where
  pub height : f.height ≤ m.states
  pub width : f.width ≤ n.states

-- no arc leads back from a state k, or those after it, to one before
abbrev pub NeverReturns : Net → ℕ → Type 0
NeverReturns n k = (a label b : ℕ) → HasArc n a label b → k ≤ a → k ≤ b

-- each arc from state k, or those after it, leads to one after it
abbrev pub IsSource : Net → ℕ → Type 0
IsSource n k = (a label b : ℕ) → HasArc n a label b → k ≤ a → k < b

-- no arc leads over state k
abbrev pub IsGate : Net → ℕ → Type 0
IsGate n k = (a label b : ℕ) → HasArc n a label b → a < k → b ≤ k
