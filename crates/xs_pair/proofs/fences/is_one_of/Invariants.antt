use Rattle.std.proofs.Common.{◌≡◌, drop}
use Rattle.xs_pair.specs.Fences.{is_one_of}
use Rattle.xs_pair.proofs.fences.is_one_of.Given as goal

abbrev pub invariant-letters : goal.invariant-letters
invariant-letters l = is_one_of l.letters l.letter ≡ is_one_of (drop l.other-index l.letters) l.letter
