use Rattle.std.proofs.Common.{◌≡◌, drop}
use Rattle.xs_pair.specs.Balance.{right_of}
use Rattle.xs_pair.proofs.balance.right_of.Given as goal

abbrev pub invariant-pairs : goal.invariant-pairs
invariant-pairs l = right_of l.pairs l.letter ≡ right_of (drop l.pair-index l.pairs) l.letter
