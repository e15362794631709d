-- Which nonterminals one reaches, and the net that is left of a grammar's net for them.
use Rattle.std.specs.Prelude.{◌≡◌, ℕ, ◌-◌, ◌/◌, ◌<◌, ◌≤◌, Bool, true, false, List, [], ◌∷◌, ◌++◌, get_or, nat_lt, if◌then◌else◌}
use Rattle.std.specs.List.{Contains}
use Rattle.xs_coarse.specs.declared.arc.Arc.{Arc}
use Rattle.xs_coarse.specs.Coarse.{Net}

-- the nonterminal is of the set
abbrev pub IsIn : List Bool → ℕ → Type 0
IsIn has m = get_or has m false ≡ true

-- where the arc leads from a nonterminal's exit back into a rule of one of the set, that nonterminal is of it too
abbrev pub StaysIn : List Bool → Arc → Type 0
StaysIn has x = 65536 ≤ x.label → IsIn has (x.label - 65536) → IsIn has (x.from / 2)

-- so it is with all arcs of the net: the set has what a rule of one of it uses
abbrev pub IsClosedIn : Net → List Bool → Type 0
IsClosedIn n has = (x : Arc) → Contains n.arcs x → StaysIn has x

-- an arc is kept; one that leads back into a rule becomes an empty move, if the rule is of a nonterminal of
-- the set
pub record IsKept (has : List Bool) (arcs : List Arc) (x : Arc) : Type 0 where
  pub plain : x.label < 65536 → Contains arcs x
  pub returns : 65536 ≤ x.label → IsIn has (x.label - 65536) → Contains arcs (record { from = x.from; label = 0; to = x.to })

-- the second net has the states of the first one, and the arcs that are kept
pub record IsRestricted (has : List Bool) (m n : Net) : Type 0 where
  pub states : n.states ≡ m.states
  pub kept : (x : Arc) → Contains m.arcs x → IsKept has n.arcs x

-- what is left of an arc for the set: an arc that leads back into a rule goes, or becomes an empty move, if the
-- rule is of a nonterminal of the set
abbrev pub left_arc : List Bool → Arc → List Arc
left_arc has x = if nat_lt x.label 65536 then x ∷ [] else (if get_or has (x.label - 65536) false then record { from = x.from; label = 0; to = x.to } ∷ [] else [])

abbrev pub left_arcs : List Bool → List Arc → List Arc
left_arcs has [] = []
left_arcs has (x ∷ xs) = left_arc has x ++ left_arcs has xs

-- what is left of a net
abbrev pub left_net : List Bool → Net → Net
left_net has n = record { states = n.states; arcs = left_arcs has n.arcs }

-- where the arc leads back into a rule, an arc leads from the rule's nonterminal to the one that it uses
abbrev pub IsUsed : List Arc → Arc → Type 0
IsUsed uses x = 65536 ≤ x.label → Contains uses (record { from = x.label - 65536; label = 0; to = x.from / 2 })

-- the second net has which nonterminals the rules of each use, by the arcs of the first one
abbrev pub AreUses : Net → Net → Type 0
AreUses n uses = (x : Arc) → Contains n.arcs x → IsUsed uses.arcs x

-- the set has what an arc shows that one of it uses, and what all arcs show
abbrev pub HasUse : List Bool → Arc → Type 0
HasUse has x = IsIn has x.from → IsIn has x.to

abbrev pub HasUses : Net → List Bool → Type 0
HasUses uses has = (x : Arc) → Contains uses.arcs x → HasUse has x
