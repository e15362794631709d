-- Positions that are marked, and those that a word leads to.
use Rattle.std.specs.Prelude.{◌≡◌, ◌⊎◌, ◌↔◌, ℕ, Bool, false, List, [], slice_index_or, Contains, IsTrue}
use Rattle.xs_regex.specs.declared.position.Position.{Position}
use Rattle.xs_regex.specs.Automaton.{HasAt, Leads, Runs}

-- the flag of a position is set
abbrev pub Marked : List Bool → ℕ → Type 0
Marked flags k = IsTrue (slice_index_or flags k false)

-- a position that may come next: a first one at the start, and later one that follows
abbrev pub MayCome : Position → List ℕ → ℕ → Type 0
MayCome p w k = ((w ≡ []) × Contains p.first k) ⊎ ((j : ℕ) × Runs p w j × Leads p j k)

-- the flags are those of positions that have the symbol among the others
abbrev pub AreEntered : Position → List Bool → ℕ → List Bool → Type 0
AreEntered p may s reached = (k : ℕ) → Marked reached k ↔ (Marked may k × HasAt p k s)

-- the flags are those of positions that follow the others
abbrev pub AreNext : Position → List Bool → List Bool → Type 0
AreNext p reached may = (k : ℕ) → Marked may k ↔ ((j : ℕ) × Marked reached j × Leads p j k)

-- the flags that a word leads to
pub record IsReached (p : Position) (w : List ℕ) (may reached : List Bool) : Type 0 where
  pub next : (k : ℕ) → Marked may k ↔ MayCome p w k
  pub last : (k : ℕ) → Marked reached k ↔ Runs p w k
