use Rattle.std.proofs.Common.{◌≡◌, drop}
use Rattle.xs_gram.specs.Fences.{is_right}
use Rattle.xs_gram.proofs.spread.is_right.Given as goal

abbrev pub invariant-fences : goal.invariant-fences
invariant-fences l = is_right l.fences l.symbol ≡ is_right (drop l.fence-index l.fences) l.symbol
