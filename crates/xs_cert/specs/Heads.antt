-- With which partners a group or a rule has a block.
use Rattle.std.specs.Prelude.{ℕ, List, Bool, ◌&&◌, not, nat_eq}
use Rattle.xs_auto.specs.Nests.{Group}
use Rattle.xs_gram.specs.Grammar.{Grammar, rule_of}
use Rattle.xs_cert_laws.specs.Certificates.{one_fence}

-- whether two groups have one fence and are not related
abbrev pub is_open : List Group → (ℕ → ℕ → Bool) → ℕ → ℕ → Bool
is_open nest r h k = one_fence nest h k && not (r h k)

-- whether two rules are of one nonterminal
abbrev pub is_of_one : Grammar → ℕ → ℕ → Bool
is_of_one g p q = nat_eq (rule_of g p).non (rule_of g q).non
