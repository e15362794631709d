use Rattle.std.proofs.Common.{◌≡◌, take}
use Rattle.xs_regex.proofs.sets.text_of.Given as goal

abbrev pub invariant-loop-c : goal.invariant-loop-c
invariant-loop-c l = l.text ≡ take l.c-index l.letters
