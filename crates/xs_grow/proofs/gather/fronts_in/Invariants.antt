use Rattle.xs_grow.specs.Lists.{Appends}
use Rattle.xs_grow.specs.Candidates.{FrontFrom, InSet}
use Rattle.xs_grow.proofs.gather.fronts_in.Given as goal

abbrev pub invariant-items : goal.invariant-items
invariant-items l = Appends (InSet (FrontFrom l.g l.doc l.calls) l.chart.sets l.set l.k) l.initial.candidates.items l.candidates.items
