use Rattle.std.proofs.Common.{◌≡◌, ◌++◌, take}
use Rattle.xs_earley.specs.Arriving.{gathered, more_due, more_begun}
use Rattle.xs_earley.proofs.arrive.read_all.Given as goal

abbrev pub invariant-begun : goal.invariant-begun
invariant-begun l = record {
  due : l.due.items ≡ l.initial.due.items ++ gathered (more_due l.facts l.symbol) (take l.one-index l.begun);
  fresh : l.fresh.items ≡ l.initial.fresh.items ++ gathered (more_begun l.facts l.symbol) (take l.one-index l.begun);
}
