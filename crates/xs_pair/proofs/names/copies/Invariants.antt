use Rattle.std.proofs.Common.{◌≡◌, take}
use Rattle.xs_pair.proofs.names.copies.Given as goal

abbrev pub invariant-texts : goal.invariant-texts
invariant-texts l = l.all.items ≡ take l.text-index l.texts
