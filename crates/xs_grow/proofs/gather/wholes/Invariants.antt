use Rattle.xs_grow.specs.Lists.{Appends}
use Rattle.xs_grow.specs.Candidates.{WholeAt, InSets}
use Rattle.xs_grow.proofs.gather.wholes.Given as goal

abbrev pub invariant-sets : goal.invariant-sets
invariant-sets l = Appends (InSets (WholeAt l.g) l.chart.sets l.set) l.initial.candidates.items l.candidates.items
