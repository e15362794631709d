use Rattle.std.proofs.Common.{◌≡◌, ◌++◌, take}
use Rattle.xs_chart.specs.Charted.{items_from}
use Rattle.xs_chart.specs.Different.{AreDifferent}
use Rattle.xs_chart.proofs.set.add_states.Given as goal

abbrev pub invariant-states : goal.invariant-states
invariant-states l = record {
  items : l.set.keys ≡ l.initial.set.keys ++ items_from l.origin (take l.state-index l.states);
  different : AreDifferent l.set.keys;
}
