use Rattle.std.proofs.Common.{◌≡◌, ℕ, ◌<◌, ◌≤◌, get_or}
use Rattle.xs_chart.specs.declared.waiting.Waiter.{Waiter}
use Rattle.xs_chart.specs.Charted.{non_of}
use Rattle.xs_chart.proofs.waiting.group_end.Given as goal

abbrev pub invariant-entries : goal.invariant-entries
invariant-entries l = (k : ℕ) (d : Waiter) → l.from ≤ k → k < l.end → non_of (get_or l.waits k d) ≡ l.non
