-- The laws of covers: they accept at least the loose words, and sets of pairs of their states that are
-- closed show that there is no suspect.
use Rattle.std.specs.Prelude.{ℕ, ◌<◌, Bool, List, slice_range}
use Rattle.xs_auto.specs.Nets.{Graph}
use Rattle.xs_auto.specs.Nests.{Group, Crossing, IsFenced}
use Rattle.xs_gram.specs.declared.parts.GItem.{GItem}
use Rattle.xs_gram.specs.Grammar.{Grammar}
use Rattle.xs_gram.specs.Fences.{spread}
use Rattle.xs_gram.specs.Sound.{IsBuilt}
use Rattle.xs_gram.specs.Loose.{IsLoose}
use Rattle.xs_gram.specs.Suspects.{Overlaps}
use Rattle.xs_loose.specs.Parts.{IsStretch}
use Rattle.xs_meet.specs.Closed.{IsClear, Marked, AreApart, IsSettled}
use Rattle.xs_coarse.specs.Coarse.{Table, MayCall, Net, view}
use Rattle.xs_coarse.specs.Covers.{CoversPart, CoversCut, CoversGroups, AreUnfenced}

-- a grammar that was built, and a nest that covers its groups
pub record Covering (g : Grammar) (nest : List Group) : Type 0 where
  pub built : IsBuilt g
  pub groups : CoversGroups g nest

-- a net that covers a stretch goes by each of its loose words from the one state to the other
abbrev pub CoversAcceptLoose : Type 0
CoversAcceptLoose =
    (g : Grammar) (nest : List Group) → Covering g nest
    → (n : Graph) (p k : ℕ) (is : List GItem) (a b : ℕ) → IsStretch g p k is → CoversPart g n p k is a b
    → (w : List ℕ) → IsLoose g is w → Crossing nest n a w b

-- the nest may be searched
abbrev pub CoverNestsAreFenced : Type 0
CoverNestsAreFenced = (g : Grammar) (nest : List Group) → Covering g nest → IsFenced nest

-- where marks show that two nets are apart, the stretches that they cover have no loose word in common
abbrev pub ApartSharesNone : Type 0
ApartSharesNone =
    (g : Grammar) (nest : List Group) → Covering g nest
    → (t : Table) → AreUnfenced g t → IsSettled nest (MayCall t)
    → (m n : Net) (p k q j : ℕ) (is js : List GItem) (a b c d : ℕ) → IsStretch g p k is → IsStretch g q j js
    → CoversPart g (view t m a b) p k is a b → CoversPart g (view t n c d) q j js c d → b < m.states → d < n.states
    → AreApart (MayCall t) (view t m a b) (view t n c d)
    → (w : List ℕ) → IsLoose g is w → IsLoose g js w → ⊥

-- where marks show that a net is clear at the state of a cut, nothing overlaps there
abbrev pub ClearOverlapsNot : Type 0
ClearOverlapsNot =
    (g : Grammar) (nest : List Group) → Covering g nest
    → (t : Table) → AreUnfenced g t → IsSettled nest (MayCall t)
    → (n : Net) (p start place end here last : ℕ) → IsStretch g p start (slice_range (spread g p) start end)
    → CoversCut g (view t n 0 last) p start place end here last → here < n.states → last < n.states
    → (z1 z0 z2 z3 : ℕ → ℕ → Bool) → IsClear (MayCall t) (view t n 0 here) (view t n here last) (Marked z1) (Marked z0) (Marked z2) (Marked z3)
    → (x a y : List ℕ) → Overlaps g (slice_range (spread g p) start place) (slice_range (spread g p) place end) x a y → ⊥
