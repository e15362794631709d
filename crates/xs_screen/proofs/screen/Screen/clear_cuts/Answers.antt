use Rattle.std.proofs.Common.{Bool, List, sym, subst, ◌∙◌}
use Rattle.xs_screen.specs.Screens.{AreDoubts}
use Rattle.xs_screen.proofs.Seeing.{doubt_cleared}
use Rattle.xs_screen.proofs.screen.Screen.clear_cuts.Goals as goal

pub places-preserved : goal.places-preserved
places-preserved c =
    let g = c.args.g.now in
    let rule = c.args.part.now.rule in
    let place = c.index-outer.result.now.place in
    record {
      labels = c.is_clear.ensures.labels ∙ c.places.invariant.labels;
      screen = c.is_clear.ensures.screen;
      doubts = subst (λ (ds : List Bool). AreDoubts g rule ds) (sym c.clear_doubt.ensures) (doubt_cleared g rule place c.places.doubts.items (c.in_ok-is_clear.ensures.clear c.if-not-branch.false) c.places.invariant.doubts);
    }
