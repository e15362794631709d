use Rattle.xs_cover.specs.Steps.{AreContexts}
use Rattle.xs_cover.specs.Tables.{total}
use Rattle.xs_cover.proofs.contexts.Contexts.settle.Given as goal

abbrev pub invariant-sweeps : goal.invariant-sweeps
invariant-sweeps l = AreContexts l.two.text l.two.xml l.prices l.self

abbrev pub decreases-sweeps : goal.decreases-sweeps
decreases-sweeps l = total l.self.arounds.items
