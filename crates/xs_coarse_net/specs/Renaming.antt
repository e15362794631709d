-- A net between the names of the states of another.
use Rattle.std.specs.Prelude.{◌≡◌, ℕ, ◌⊎◌, List, get_or}
use Rattle.std.specs.List.{All, Contains}
use Rattle.xs_coarse.specs.declared.arc.Arc.{Arc}
use Rattle.xs_coarse.specs.Coarse.{Net, IsWithin}

-- the name of a state
abbrev pub name_of : List ℕ → ℕ → ℕ
name_of names x = get_or names x 0

-- the arc between the names of its states
abbrev pub named : List ℕ → Arc → Arc
named names x = record { from = name_of names x.from; label = x.label; to = name_of names x.to }

-- the arcs have it between the names of its states, or it reads nothing, and they have one name
abbrev pub IsCarried : List ℕ → List Arc → Arc → Type 0
IsCarried names arcs x = ((x.label ≡ 0) × (name_of names x.from ≡ name_of names x.to)) ⊎ Contains arcs (named names x)

-- so does the second net each arc of the first one
pub record IsRenamed (names : List ℕ) (m n : Net) : Type 0 where
  pub within : All (IsWithin n.states) n.arcs
  pub arc : (x : Arc) → Contains m.arcs x → IsCarried names n.arcs x
