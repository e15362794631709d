-- How far the nest of a grammar's groups was made.
use Rattle.std.specs.Prelude.{◌≡◌, ℕ, ◌<◌, List, length}
use Rattle.xs_auto.specs.Nests.{Group, IsGroup}
use Rattle.xs_gram.specs.declared.parts.GItem.{GItem}
use Rattle.xs_gram.specs.Grammar.{Grammar}
use Rattle.xs_gram.specs.Fences.{spread, GroupAt}
use Rattle.xs_check_laws.specs.Acceptance.{IsBefore}
use Rattle.xs_loose.specs.Groups.{group_number}
use Rattle.xs_loose.specs.Nets.{IsGroupOf}

-- the nest has the groups before spread item k of rule p, each under its number and as P says of its
-- place, and no others
pub record HasGroupsBefore (P : ℕ → ℕ → Group → Type 0) (g : Grammar) (p k : ℕ) (nest : List Group) : Type 0 where
  pub counted : length nest ≡ group_number g p k
  pub there : (q j m l r : ℕ) (inside : List GItem) → IsBefore q j p k → q < length g.rules → GroupAt g.fences (spread g q) j m l inside r → (group : Group) × IsGroup nest (group_number g q j) group × P q j group
  pub only : (h : ℕ) (group : Group) → IsGroup nest h group → (q : ℕ) × (j : ℕ) × (h ≡ group_number g q j) × P q j group

-- each with the net of the stretch inside
abbrev pub IsNestBefore : Grammar → ℕ → ℕ → List Group → Type 0
IsNestBefore g p k nest = HasGroupsBefore (IsGroupOf g) g p k nest
