use Rattle.std.proofs.Common.{List, sym, subst}
use Rattle.std.specs.declared.option.Option.{Option}
use Rattle.std.specs.Option.{IfSome}
use Rattle.xs_coarse.specs.Coarse.{Table}
use Rattle.xs_coarse_net.specs.declared.cover.Cover.{Cover}
use Rattle.xs_screen.specs.Screens.{IsWholeCover, AreOf}
use Rattle.xs_screen.proofs.Seeing.{apart_shares, held_cover}
use Rattle.xs_screen.proofs.screen.Screen.are_covers_apart.Goals as goal

pub returns-clause-apart : goal.returns-clause-apart
returns-clause-apart c =
    let g = c.args.g.now in
    let s = c.missing-2.new.self in
    let screen = c.missing-2.ensures.screen in
    let made = subst (λ (t : Table). IfSome c.in_ok-one.one (IsWholeCover g t c.args.rule)) (sym c.missing-2.ensures.labels) c.in_ok-one.ensures.cover in
    let kept = subst (λ (xs : List (Option Cover)). AreOf (IsWholeCover g s.labels) xs) (sym c.deref.ensures.value) screen.kept.each_cover in
    let kept2 = subst (λ (xs : List (Option Cover)). AreOf (IsWholeCover g s.labels) xs) (sym c.deref-2.ensures.value) screen.kept.each_cover in
    let one = held_cover g s.labels c.args.rule _ c.in_ok-one.one c.in-Some.first.now kept made c.in-Some.ensures in
    let other = held_cover g s.labels c.args.rule2 _ c.in_ok-other.other c.in-Some-held.second.now kept2 c.in_ok-other.ensures.cover c.in-Some-held.ensures in
    λ e. apart_shares g c.requires.built s screen c.closed_sets_show_none.ensures.apart c.args.rule c.args.rule2 c.requires.rule c.requires.rule2 c.in-Some.first.now c.in-Some-held.second.now one other (c.in_ok-apart.ensures e)
