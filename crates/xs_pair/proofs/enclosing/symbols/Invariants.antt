use Rattle.std.proofs.Common.{◌≡◌, take}
use Rattle.xs_pair.proofs.enclosing.symbols.Given as goal

abbrev pub invariant-pairs : goal.invariant-pairs
invariant-pairs l = l.fences.items ≡ take l.pair-index l.pairs
