use Rattle.xs_closed.specs.Words.{IsCleared}
use Rattle.std.proofs.Common.{◌*◌}
use Rattle.xs_closed.proofs.pair_set.words.clear_row_words.Given as goal

abbrev pub invariant-places : goal.invariant-places
invariant-places l = IsCleared l.initial.words.items l.words.items (l.fn.row * l.fn.step) l.place
