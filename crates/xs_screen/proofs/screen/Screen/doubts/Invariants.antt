use Rattle.xs_screen.specs.Screens.{IsScreen, AreDoubts}
use Rattle.xs_screen.proofs.screen.Screen.doubts.Given as goal

abbrev pub invariant-items : goal.invariant-items
invariant-items l = record {
  screen : IsScreen l.g l.self;
  doubts : AreDoubts l.g l.rule l.doubts.items;
}
