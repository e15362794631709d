use Rattle.xs_gram.specs.Fences.{spread}
use Rattle.xs_order.specs.Graphs.{AreByRule}
use Rattle.xs_order.specs.Outer.{AreOuterNons}
use Rattle.xs_order.proofs.component.uses.Given as goal

abbrev pub invariant-rules : goal.invariant-rules
invariant-rules l = AreByRule (λ p list. AreOuterNons l.g.fences (spread l.g p) list) l.rule l.lists.items
