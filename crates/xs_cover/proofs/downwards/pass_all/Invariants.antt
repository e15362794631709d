use Rattle.xs_cover.specs.Steps.{AreContexts}
use Rattle.xs_cover.proofs.downwards.pass_all.Given as goal

abbrev pub invariant-rules : goal.invariant-rules
invariant-rules l = AreContexts l.two.text l.two.xml l.prices l.contexts
