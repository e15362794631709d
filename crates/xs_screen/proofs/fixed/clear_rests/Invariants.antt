use Rattle.std.proofs.Common.{◌≤◌, length}
use Rattle.xs_gram.specs.Fences.{spread}
use Rattle.xs_screen.specs.Screens.{AreDoubts}
use Rattle.xs_screen.proofs.FixedWords.{AreFixedFrom}
use Rattle.xs_screen.proofs.fixed.clear_rests.Given as goal

abbrev pub invariant-places : goal.invariant-places
invariant-places l = record {
  within : l.place ≤ length (spread l.g l.rule);
  fixed : AreFixedFrom (spread l.g l.rule) l.place;
  doubts : AreDoubts l.g l.rule l.doubts.items;
}

abbrev pub decreases-places : goal.decreases-places
decreases-places l = l.place
