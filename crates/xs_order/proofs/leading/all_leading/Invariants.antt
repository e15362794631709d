use Rattle.xs_gram.specs.Grammar.{items}
use Rattle.xs_order.specs.Graphs.{AreByRule, AreLeading}
use Rattle.xs_order.proofs.leading.all_leading.Given as goal

abbrev pub invariant-rules : goal.invariant-rules
invariant-rules l = AreByRule (λ p list. AreLeading l.g l.nulls (items l.g p) list) l.rule l.lists.items
