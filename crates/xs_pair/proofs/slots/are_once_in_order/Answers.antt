use Rattle.xs_pair.proofs.Decided.{no}
use Rattle.xs_pair.proofs.Once.{distinct_no_repeat}
use Rattle.xs_pair.proofs.slots.are_once_in_order.Goals as goal

pub returns-else-is_distinct : goal.returns-else-is_distinct
returns-else-is_distinct c = rw c.if-is_distinct.false (no (λ both. distinct_no_repeat c.args.left.now both.0 c.if-is_distinct.ensures))
