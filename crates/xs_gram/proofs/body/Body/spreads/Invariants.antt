use Rattle.xs_gram.specs.Spreading.{AreSpreads}
use Rattle.xs_gram.proofs.body.Body.spreads.Given as goal

abbrev pub invariant-rules : goal.invariant-rules
invariant-rules l = AreSpreads l.self l.rule-index l.spreads.items
