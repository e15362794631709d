-- The heads of the blocks of a side, by marks of the groups that are said to share a word.
use Rattle.std.specs.Prelude.{ℕ, List, ◌++◌, length, map, flat_map, filter, Bool}
use Rattle.xs_auto.specs.Nests.{Group}
use Rattle.xs_gram.specs.Grammar.{Grammar}
use Rattle.xs_cert_laws.specs.Blocks.{Head, for_groups}
use Rattle.xs_cert_laws.specs.Certificates.{between, rule_heads, cut_heads}
use Rattle.xs_cert.specs.Heads.{is_open}

-- those of group h
abbrev pub open_heads : List Group → (ℕ → ℕ → Bool) → ℕ → List Head
open_heads nest marks h = map (for_groups h) (filter (is_open nest marks h) (between h (length nest)))

abbrev pub all_group_heads : List Group → (ℕ → ℕ → Bool) → List Head
all_group_heads nest marks = flat_map (open_heads nest marks) (between 0 (length nest))

abbrev pub all_rule_heads : Grammar → List Head
all_rule_heads g = flat_map (rule_heads g) (between 0 (length g.rules))

abbrev pub all_cut_heads : Grammar → List Head
all_cut_heads g = flat_map (cut_heads g) (between 0 (length g.rules))

abbrev pub side_heads : Grammar → List Group → (ℕ → ℕ → Bool) → List Head
side_heads g nest marks = all_group_heads nest marks ++ (all_rule_heads g ++ all_cut_heads g)
