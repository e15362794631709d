use Rattle.std.proofs.Common.{◌≡◌, drop}
use Rattle.xs_gram.specs.Fences.{is_left}
use Rattle.xs_gram.proofs.spread.is_left.Given as goal

abbrev pub invariant-fences : goal.invariant-fences
invariant-fences l = is_left l.fences l.symbol ≡ is_left (drop l.fence-index l.fences) l.symbol
