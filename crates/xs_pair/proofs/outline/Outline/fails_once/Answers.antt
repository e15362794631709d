use Rattle.std.proofs.Common.{◌≡◌, ◌∙◌, ap, sym, subst, List}
use Rattle.xs_pair.specs.declared.mark.Mark.{Mark}
use Rattle.xs_pair.specs.declared.production.Rule.{Rule}
use Rattle.xs_pair.specs.Directories.{IsDistinct}
use Rattle.xs_pair.specs.Marks.{slot_names}
use Rattle.xs_pair.proofs.Decided.{no}
use Rattle.xs_pair.proofs.Once.{in_order}
use Rattle.xs_pair.proofs.Places.{when_true}
use Rattle.xs_pair.proofs.outline.Outline.fails_once.Goals as goal

pub returns-then-are_once_in_order : goal.returns-then-are_once_in_order
returns-then-are_once_in_order c =
    let told = when_true c.are_once_in_order.result c.are_once_in_order.ensures c.if-are_once_in_order.true in
    let right : c.as_slice-right.result.now ≡ c.args.slotted.now.right = c.as_slice-right.ensures ∙ ap (λ (r : Rule). r.right) c.rule.ensures in
    no (in_order (slot_names c.args.slotted.now.left) (slot_names c.args.slotted.now.right)
    (subst (λ l. IsDistinct l) c.slots-slots.ensures told.0)
    (ap (λ (ms : List Mark). slot_names ms) (sym right) ∙ told.1 ∙ c.slots-slots.ensures))
