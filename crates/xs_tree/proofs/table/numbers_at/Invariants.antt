use Rattle.std.proofs.Common.{◌≡◌, take}
use Rattle.xs_tree.specs.Tables.{picked}
use Rattle.xs_tree.proofs.table.numbers_at.Given as goal

abbrev pub invariant-places : goal.invariant-places
invariant-places l = l.list.items ≡ picked l.numbers (take l.place-index l.places)
