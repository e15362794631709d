use Rattle.xs_earley.specs.Starts.{AreEnds}
use Rattle.xs_earley.proofs.facts.ends_of.Given as goal

abbrev pub invariant-rules : goal.invariant-rules
invariant-rules l = AreEnds l.g l.rule l.ends.items
