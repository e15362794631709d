use Rattle.xs_class.proofs.Merging.{without_from_gaps}
use Rattle.xs_class.proofs.class.Class.without.Goals as goal

pub returns : goal.returns
returns c =
    without_from_gaps c.meet-2.result c.args.self.now c.args.other.now c.in_ok-gaps.field-0 (rw c.self.view_is at c.self.invariant) (rw (← c.other.view_is, ← c.deref.ensures.value) c.in_ok-gaps.ensures) c.meet-2.ensures
