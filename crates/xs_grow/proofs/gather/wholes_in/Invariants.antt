use Rattle.xs_grow.specs.Lists.{Appends}
use Rattle.xs_grow.specs.Candidates.{WholeAt, InSet}
use Rattle.xs_grow.proofs.gather.wholes_in.Given as goal

abbrev pub invariant-items : goal.invariant-items
invariant-items l = Appends (InSet (WholeAt l.g) l.chart.sets l.set l.k) l.initial.candidates.items l.candidates.items
