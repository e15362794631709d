use Rattle.xs_pair.proofs.Places.{get_at, when_true}
use Rattle.xs_pair.proofs.Lines.{some_at}
use Rattle.xs_pair.proofs.Decided.{yes}
use Rattle.xs_wf.specs.Units.{IsStrangeMark}
use Rattle.xs_wf.proofs.units.some_strange.Goals as goal

pub returns-then-branch : goal.returns-then-branch
returns-then-branch c =
    yes (some_at IsStrangeMark c.args.marks.now c.marks.mark-index c.mark-item.result (get_at c.args.marks.now c.marks.mark-index c.mark-item.result c.marks-test.true c.mark-item.is)
    (when_true c.in_ok-is_strange_mark.field-0 c.in_ok-is_strange_mark.ensures c.if-branch.true))
