use Rattle.std.proofs.Common.{◌<◌, ℕ}
use Rattle.xs_gram.specs.Grammar.{IsRuleOf}
use Rattle.xs_wf.proofs.nonterminals.first_line.Given as goal

abbrev pub invariant-rules : goal.invariant-rules
invariant-rules l = (k : ℕ) → k < l.rule → IsRuleOf l.two.text l.non k → ⊥
