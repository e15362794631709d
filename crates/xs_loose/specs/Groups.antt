-- The numbers of a grammar's groups: by rule, and in a rule by the place of the left fence.
use Rattle.std.specs.Prelude.{ℕ, zero, suc, ◌+◌, List, [], ◌∷◌, length, take, true, false}
use Rattle.xs_gram.specs.declared.parts.GItem.{GItem}
use Rattle.xs_gram.specs.Grammar.{Grammar}
use Rattle.xs_gram.specs.Fences.{spread}
use Rattle.xs_gram.specs.Spreading.{opens}

-- how many of the items are left fences
abbrev pub lefts : List (ℕ × ℕ) → List GItem → ℕ
lefts fs [] = 0
lefts fs (i ∷ is) = elim (opens fs i) [
  | true ↦ suc (lefts fs is)
  | false ↦ lefts fs is
]

-- how many groups the rules before rule p have
abbrev pub groups_before : Grammar → ℕ → ℕ
groups_before g zero = 0
groups_before g (suc p) = groups_before g p + lefts g.fences (spread g p)

-- how many groups the grammar has
abbrev pub groups_count : Grammar → ℕ
groups_count g = groups_before g (length g.rules)

-- the number of the group whose left fence is spread item k of rule p
abbrev pub group_number : Grammar → ℕ → ℕ → ℕ
group_number g p k = groups_before g p + lefts g.fences (take k (spread g p))
