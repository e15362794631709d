use Rattle.std.proofs.Common.{◌≡◌, take}
use Rattle.xs_grow.proofs.calls.marks_of.Given as goal

abbrev pub invariant-list : goal.invariant-list
invariant-list l = l.marks ≡ take l.mark-index l.list
