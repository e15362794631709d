use Rattle.xs_earley.specs.Starts.{AreStarts}
use Rattle.xs_earley.proofs.facts.starts_of.Given as goal

abbrev pub invariant-rules : goal.invariant-rules
invariant-rules l = AreStarts l.g l.rule l.rows.items
