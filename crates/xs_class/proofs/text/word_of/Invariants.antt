use Rattle.std.proofs.Common.{◌≡◌, take}
use Rattle.xs_class.proofs.text.word_of.Given as goal

abbrev pub invariant-letters : goal.invariant-letters
invariant-letters l = l.word ≡ take l.letter-index l.letter-items
