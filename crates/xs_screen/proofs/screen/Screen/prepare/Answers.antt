use Rattle.std.proofs.Common.{refl, subst}
use Rattle.xs_loose.specs.declared.part.Part.{Part}
use Rattle.xs_coarse_net.specs.Covers.{IsCoverOf}
use Rattle.xs_screen.proofs.Seeing.{screen_kept, kept_more}
use Rattle.xs_screen.proofs.screen.Screen.prepare.Goals as goal

pub returns : goal.returns
returns c =
    let g = c.args.g.now in
    let s = c.args.self.now in
    let cover = c.in-Some.cover in
    let made = rw c.in-Some.is at c.in_ok-cover.ensures.cover in
    let whole = subst (λ (part : Part). IsCoverOf g s.labels part cover) c.whole-part.ensures.is made in
    let end = rw c.in-Some-2.is at c.in_ok-tail.ensures in
    screen_kept g s _ c.requires.screen refl c.cover.ensures.covers c.cover.ensures.contents (kept_more g s.labels s.kept c.keep.new.self c.args.rule c.in-Some-2.tail cover c.requires.screen.kept whole end c.keep.ensures.tails c.keep.ensures.covers)
