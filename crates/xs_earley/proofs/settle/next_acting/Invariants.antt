use Rattle.std.proofs.Common.{ℕ, ◌-◌, ◌<◌, ◌≤◌, length}
use Rattle.xs_earley.specs.Waiting.{IsIdle}
use Rattle.xs_earley.proofs.settle.next_acting.Given as goal

abbrev pub invariant-items : goal.invariant-items
invariant-items l = record {
  from : l.from ≤ l.at;
  within : l.at ≤ length l.items;
  idle : (k : ℕ) → l.from ≤ k → k < l.at → IsIdle l.acts l.items k;
}

abbrev pub decreases-items : goal.decreases-items
decreases-items l = length l.items - l.at
