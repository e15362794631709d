use Rattle.xs_grow.specs.Lists.{Appends}
use Rattle.xs_grow.specs.Candidates.{FrontFrom, InSets}
use Rattle.xs_grow.proofs.gather.fronts.Given as goal

abbrev pub invariant-sets : goal.invariant-sets
invariant-sets l = Appends (InSets (FrontFrom l.g l.doc l.calls) l.chart.sets l.set) l.initial.candidates.items l.candidates.items
