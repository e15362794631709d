use Rattle.std.proofs.Common.{◌≡◌, take}
use Rattle.xs_regex.proofs.compose.rows_copied.Given as goal

abbrev pub invariant-rows : goal.invariant-rows
invariant-rows l = l.all.items ≡ take l.row-index l.rows
