use Rattle.std.proofs.Common.{ℕ, ◌<◌, get_or}
use Rattle.std.specs.Prelude.{Contains}
use Rattle.xs_chart.specs.Charted.{items_of, item_from}
use Rattle.xs_earley.proofs.run.has_any.Given as goal

abbrev pub invariant-states : goal.invariant-states
invariant-states l = (n : ℕ) → n < l.state-index → Contains (items_of l.chart l.at) (item_from 0 (get_or l.states n 0)) → ⊥
