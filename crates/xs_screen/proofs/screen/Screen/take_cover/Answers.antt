use Rattle.std.proofs.Common.{refl, sym, subst, IfSome}
use Rattle.xs_loose.specs.declared.part.Part.{Part}
use Rattle.xs_coarse_net.specs.Covers.{IsCoverOf}
use Rattle.xs_screen.proofs.Seeing.{screen_taken, taken_cover}
use Rattle.xs_screen.proofs.screen.Screen.take_cover.Goals as goal

pub returns-then-is_whole-clause-screen : goal.returns-then-is_whole-clause-screen
returns-then-is_whole-clause-screen c = screen_taken c.args.g.now c.args.self.now _ c.args.part.now.rule c.requires.screen refl refl c.take.ensures.tails c.take.ensures.covers

pub returns-then-is_whole-clause-cover : goal.returns-then-is_whole-clause-cover
returns-then-is_whole-clause-cover c =
    let g = c.args.g.now in
    let t = c.args.self.now.labels in
    let part = c.args.part.now in
    subst (λ (p : Part). IfSome c.take.result (IsCoverOf g t p)) (sym (c.is_whole.ensures c.if-is_whole.true)) (taken_cover g t part.rule c.args.self.now.kept.covers.items c.take.result c.requires.screen.kept.each_cover c.take.ensures.taken)
