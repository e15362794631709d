use Rattle.std.proofs.Common.{arith}
use Rattle.xs_screen.specs.Screens.{IsTailOf}
use Rattle.xs_screen.proofs.Seeing.{ends_share, read_of}
use Rattle.xs_screen.proofs.screen.Screen.are_apart.Goals as goal

pub returns-in-Some-told-clause-apart : goal.returns-in-Some-told-clause-apart
returns-in-Some-told-clause-apart c =
    let g = c.args.g.now in
    let s = c.prepare-2.new.self in
    let screen = c.prepare-2.ensures in
    let one = read_of (IsTailOf g s.labels) s.kept.tails.items c.args.rule c.index.result.now c.in-Some.one screen.kept.each_tail (omega (arith, c.requires.rule, screen.kept.tails)) c.index.ensures c.in-Some.is in
    let other = read_of (IsTailOf g s.labels) s.kept.tails.items c.args.rule2 c.index-2.result.now c.in-Some-index.other screen.kept.each_tail (omega (arith, c.requires.rule2, screen.kept.tails)) c.index-2.ensures c.in-Some-index.is in
    let ends = rw c.in-Some-told.is at c.in_ok-told.ensures in
    λ e. ends_share g c.requires.built s screen c.closed_sets_show_none.ensures.apart c.args.rule c.args.rule2 c.requires.rule c.requires.rule2 c.in-Some.one c.in-Some-index.other one other (ends e)
