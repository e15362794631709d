use Rattle.std.proofs.Common.{◌≡◌, ◌≤◌, length, take}
use Rattle.xs_chart.specs.Charted.{waiting_for}
use Rattle.xs_chart.proofs.waiting.count.Given as goal

abbrev pub invariant-entries : goal.invariant-entries
invariant-entries l = record {
  is : l.count ≡ length (waiting_for (take l.waiter-index l.waits) l.non);
  within : l.count ≤ l.waiter-index;
}
