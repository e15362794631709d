use Rattle.xs_cover.specs.Steps.{AreContexts}
use Rattle.xs_cover.proofs.downwards.step_in_order.Given as goal

abbrev pub invariant-nons : goal.invariant-nons
invariant-nons l = AreContexts l.two.text l.two.xml l.prices l.contexts
