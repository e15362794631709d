-- How nets grow: which arcs they have, and that only arcs were added.
use Rattle.std.specs.Prelude.{◌≡◌, ◌⊎◌, ℕ, List}
use Rattle.std.specs.List.{Contains}
use Rattle.xs_auto.specs.Nets.{Graph, states, final_at, edges_of, moves_of, calls_of}
use Rattle.xs_loose.specs.Arcs.{Label, reads, passes, calls, Arc}

-- the net has an arc with this label from a to b
abbrev pub HasLabel : Graph → ℕ → Label → ℕ → Type 0
HasLabel n a (reads class) b = Contains (edges_of n a) (record { class = class; to = b })
HasLabel n a passes b = Contains (moves_of n a) b
HasLabel n a (calls group) b = Contains (calls_of n a) (record { group = group; to = b })

abbrev pub HasArc : Graph → Arc → Type 0
HasArc n x = HasLabel n x.from x.label x.to

-- The new net has the states of the old one. Of the arcs that count, old ones before and new ones
-- after, the given ones were added, and nothing else.
pub record GrowsBy (arcs : List Arc) (old new : Graph) (Old New : Arc → Type 0) : Type 0 where
  pub states : states new ≡ states old
  pub start : new.start ≡ old.start
  pub finals : (i : ℕ) → final_at new i ≡ final_at old i
  pub kept : (x : Arc) → Old x → New x
  pub there : (x : Arc) → Contains arcs x → New x
  pub only : (x : Arc) → New x → Old x ⊎ Contains arcs x

-- the arcs were added to the net, and nothing else
abbrev pub NetGrows : List Arc → Graph → Graph → Type 0
NetGrows arcs old new = GrowsBy arcs old new (HasArc old) (HasArc new)
