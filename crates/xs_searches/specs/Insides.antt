-- What the insides of a rule's groups count in its weight.
use Rattle.std.specs.Prelude.{◌≡◌, ℕ, zero, suc, max, ◌<◌, List}
use Rattle.xs_gram.specs.declared.parts.GItem.{GItem}
use Rattle.xs_gram.specs.Grammar.{Grammar}
use Rattle.xs_gram.specs.Fences.{spread, GroupAt, IsLeftFence}
use Rattle.xs_check_laws.specs.Weights.{capped, PartWeighs}

-- the number is 1 more than what these items weigh
pub record IsInsideCount (g : Grammar) (inside : List GItem) (count : ℕ) : Type 0 where
  pub own : ℕ
  pub weighs : PartWeighs g inside own
  pub is : count ≡ capped (suc own)

-- what the group whose left fence is spread item k of rule p counts, and 0 where none begins there
pub record Counts (g : Grammar) (p k count : ℕ) : Type 0 where
  pub group : (m l r : ℕ) (inside : List GItem) → GroupAt g.fences (spread g p) k m l inside r → IsInsideCount g inside count
  pub none : (IsLeftFence g.fences (spread g p) k → ⊥) → count ≡ 0

-- the greatest of the counts of items before the end
abbrev pub greatest : (ℕ → ℕ) → ℕ → ℕ
greatest count zero = 0
greatest count (suc k) = max (greatest count k) (count k)

-- the number is the greatest of what the groups before the end count
pub record IsGreatest (g : Grammar) (p end most : ℕ) : Type 0 where
  pub counts : ℕ → ℕ
  pub each : (k : ℕ) → k < end → Counts g p k (counts k)
  pub is : most ≡ greatest counts end
