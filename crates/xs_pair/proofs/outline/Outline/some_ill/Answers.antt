use Rattle.std.proofs.Common.{arith}
use Rattle.xs_pair.proofs.Places.{get_at, when_true}
use Rattle.xs_pair.specs.Verdict.{IsIllMark, tables_in}
use Rattle.xs_pair.proofs.Lines.{mark_light, some_at}
use Rattle.xs_pair.proofs.Decided.{yes}
use Rattle.xs_pair.proofs.outline.Outline.some_ill.Goals as goal

pub is_ill-requires : goal.is_ill-requires
is_ill-requires c =
    let light = mark_light c.args.marks.now c.marks.mark-index c.mark-item.result (get_at c.args.marks.now c.marks.mark-index c.mark-item.result c.marks-test.true c.mark-item.is) in
    omega (arith, c.requires, light)

pub returns-then-branch : goal.returns-then-branch
returns-then-branch c =
    yes (some_at (IsIllMark c.args.rule (tables_in c.args.self.now)) c.args.marks.now c.marks.mark-index c.mark-item.result (get_at c.args.marks.now c.marks.mark-index c.mark-item.result c.marks-test.true c.mark-item.is)
    (when_true c.in_ok-is_ill.field-0 c.in_ok-is_ill.ensures c.if-branch.true))
