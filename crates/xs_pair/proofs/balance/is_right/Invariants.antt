use Rattle.std.proofs.Common.{◌≡◌, drop}
use Rattle.xs_gram.specs.Fences.{is_right}
use Rattle.xs_pair.proofs.balance.is_right.Given as goal

abbrev pub invariant-pairs : goal.invariant-pairs
invariant-pairs l = is_right l.pairs l.letter ≡ is_right (drop l.pair-index l.pairs) l.letter
