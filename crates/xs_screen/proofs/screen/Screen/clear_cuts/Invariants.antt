use Rattle.std.proofs.Common.{◌≡◌}
use Rattle.xs_screen.specs.Screens.{IsScreen, AreDoubts}
use Rattle.xs_screen.proofs.screen.Screen.clear_cuts.Given as goal

abbrev pub invariant-places : goal.invariant-places
invariant-places l = record {
  labels : l.self.labels ≡ l.initial.self.labels;
  screen : IsScreen l.g l.self;
  doubts : AreDoubts l.g l.part.rule l.doubts.items;
}
