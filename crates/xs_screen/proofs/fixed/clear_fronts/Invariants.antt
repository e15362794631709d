use Rattle.xs_gram.specs.Fences.{spread}
use Rattle.xs_screen.specs.Screens.{AreDoubts}
use Rattle.xs_screen.proofs.FixedWords.{AreFixedBefore}
use Rattle.xs_screen.proofs.fixed.clear_fronts.Given as goal

abbrev pub invariant-places : goal.invariant-places
invariant-places l = record {
  fixed : AreFixedBefore (spread l.g l.rule) l.place;
  doubts : AreDoubts l.g l.rule l.doubts.items;
}
