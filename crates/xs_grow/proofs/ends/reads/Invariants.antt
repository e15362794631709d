use Rattle.std.proofs.Common.{◌+◌, take}
use Rattle.xs_chart_laws.specs.Reading.{Reads}
use Rattle.xs_grow.proofs.ends.reads.Given as goal

abbrev pub invariant-symbols : goal.invariant-symbols
invariant-symbols l = Reads l.doc l.at (take l.k l.word) (l.at + l.k)
