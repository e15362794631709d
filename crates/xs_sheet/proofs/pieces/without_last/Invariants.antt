use Rattle.std.proofs.Common.{◌≡◌, take}
use Rattle.xs_sheet.proofs.pieces.without_last.Given as goal

abbrev pub invariant-letters : goal.invariant-letters
invariant-letters l = l.inner ≡ take l.c-index l.front
