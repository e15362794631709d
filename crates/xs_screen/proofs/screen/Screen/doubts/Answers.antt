use Rattle.std.proofs.Common.{◌+◌, refl, subst, sym}
use Rattle.xs_loose.specs.declared.part.Part.{Part}
use Rattle.xs_loose.proofs.Nesting.{inside_part}
use Rattle.xs_screen.specs.Screens.{AreDoubts}
use Rattle.xs_screen.proofs.screen.Screen.doubts.Goals as goal

pub clear_part-requires-clause-doubts : goal.clear_part-requires-clause-doubts
clear_part-requires-clause-doubts c = subst (λ (x : Part). AreDoubts c.args.g.now x.rule c.fixed_doubts.new.doubts.items) (sym c.whole-part.ensures.is) c.in_ok-fixed_doubts.ensures

pub items-init : goal.items-init
items-init c = record {
  screen = c.clear_part.ensures.screen;
  doubts = subst (λ (x : Part). AreDoubts c.args.g.now x.rule c.clear_part.new.doubts.items) c.whole-part.ensures.is c.clear_part.ensures.doubts;
}

pub clear_part-requires-in-items-clause-part : goal.clear_part-requires-in-items-clause-part
clear_part-requires-in-items-clause-part c =
    let part : Part = record { rule = c.args.rule; start = c.items.place + 1; end = c.in-Some.partner } in
    inside_part c.args.g.now c.args.rule c.items.place c.in-Some.partner part c.requires.rule c.in-Some.ensures.some refl refl refl

pub items-preserved : goal.items-preserved
items-preserved c = record { screen = c.clear_part-in-items.ensures.screen; doubts = c.clear_part-in-items.ensures.doubts }
