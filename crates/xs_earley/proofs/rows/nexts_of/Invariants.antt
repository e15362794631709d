use Rattle.std.proofs.Common.{◌≡◌, take, map}
use Rattle.xs_earley.specs.Facts.{next_at}
use Rattle.xs_earley.proofs.rows.nexts_of.Given as goal

abbrev pub invariant-rows : goal.invariant-rows
invariant-rows l = l.nexts.items ≡ map next_at (take l.row-index l.rows)
