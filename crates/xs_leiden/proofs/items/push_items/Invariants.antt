use Rattle.std.proofs.Common.{◌≡◌, ◌++◌}
use Rattle.xs_leiden.specs.Made.{more_items, after_items}
use Rattle.xs_leiden.proofs.items.push_items.Given as goal

abbrev pub invariant-items : goal.invariant-items
invariant-items l = (l.text ≡ l.fn.text ++ more_items l._place l.fn.draws.state) × (l.draws.state ≡ after_items l._place l.fn.draws.state)
