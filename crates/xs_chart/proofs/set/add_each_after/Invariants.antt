use Rattle.std.proofs.Common.{map, take}
use Rattle.xs_chart.specs.Charted.{number_of}
use Rattle.xs_chart.specs.Advancing.{HasMore, IsAfter}
use Rattle.xs_chart.specs.Different.{AreDifferent}
use Rattle.xs_chart.proofs.set.add_each_after.Given as goal

abbrev pub invariant-waiters : goal.invariant-waiters
invariant-waiters l = record {
  more : HasMore (IsAfter l.next l.items (map number_of (take l.waiter-index l.waits))) l.initial.set.keys l.set.keys;
  different : AreDifferent l.set.keys;
}
