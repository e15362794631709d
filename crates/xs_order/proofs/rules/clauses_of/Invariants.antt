use Rattle.xs_order.specs.Rules.{AreClauses}
use Rattle.xs_order.proofs.rules.clauses_of.Given as goal

abbrev pub invariant-rules : goal.invariant-rules
invariant-rules l = AreClauses l.g l.leaves l.rule l.clauses.items
