use Rattle.std.proofs.Common.{◌≡◌, take, map}
use Rattle.xs_earley.specs.Facts.{acts_at}
use Rattle.xs_earley.proofs.rows.acts_of.Given as goal

abbrev pub invariant-rows : goal.invariant-rows
invariant-rows l = l.acts.items ≡ map acts_at (take l.row-index l.rows)
