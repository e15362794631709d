use Rattle.std.proofs.Common.{ap, ◌∙◌}
use Rattle.xs_grow.proofs.Runnings.{begun_then, begun_else}
use Rattle.xs_grow.proofs.runs.begun.Goals as goal
use Rattle.xs_grow.proofs.runs.begun.Goals.{then-at_start+in_ok-enter, else-at_start}

pub enter-requires : goal.enter-requires
enter-requires c = λ k h. c.requires.first_in k (rw c.as_slice.ensures at h)

pub returns : goal.returns
returns c = λ k. elim c.if-at_start.branch [
  | then-at_start+in_ok-enter w ↦ begun_then c.args.p.now c.args.symbol c.args.at_start c.new-next.result.items w.as_slice.result.now w.enter.new.next.items c.if-at_start.next.items w.if-at_start.true c.new-next.ensures.items w.as_slice.ensures (ap (λ v. v.items) w.next-is) w.in_ok-enter.ensures k
  | else-at_start w ↦ begun_else c.args.p.now c.args.symbol c.args.at_start c.if-at_start.next.items w.if-at_start.false (ap (λ v. v.items) w.next-is ∙ c.new-next.ensures.items) k
]
