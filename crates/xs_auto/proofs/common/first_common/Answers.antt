use Rattle.std.proofs.Common.{arith}
use Rattle.xs_auto.proofs.CommonLemmas.{has_at, begins_at, passed}
use Rattle.xs_auto.proofs.common.first_common.Goals as goal

pub returns-then-low-min-clause-first : goal.returns-then-low-min-clause-first
returns-then-low-min-clause-first c = rw (← c.ranges-left.ensures.value) (has_at c.ranges-left.result.now c.merge.i c.max-low.result (omega arith) (omega arith) (omega arith))

pub returns-then-low-min-clause-second : goal.returns-then-low-min-clause-second
returns-then-low-min-clause-second c = rw (← c.ranges-right.ensures.value) (has_at c.ranges-right.result.now c.merge.j c.max-low.result (omega arith) (omega arith) (omega arith))

pub returns-then-low-min-clause-least : goal.returns-then-low-min-clause-least
returns-then-low-min-clause-least c = rw (← c.ranges-left.ensures.value, ← c.ranges-right.ensures.value) (λ s h k.
    let a = begins_at c.ranges-left.result.now c.merge.i s (rw c.ranges-left.ensures.value c.ranges-left.ensures.sorted) (omega arith) (c.merge.invariant.first s h k) in
    let b = begins_at c.ranges-right.result.now c.merge.j s (rw c.ranges-right.ensures.value c.ranges-right.ensures.sorted) (omega arith) (c.merge.invariant.second s h k) in
    omega (arith, a, b))

pub merge-preserved-then-left-i : goal.merge-preserved-then-left-i
merge-preserved-then-left-i c = record {
  left_in = omega arith;
  right_in = c.merge.invariant.right_in;
  first = λ s h k. passed c.ranges-left.result.now c.ranges-right.result.now c.merge.i c.merge.j (rw c.ranges-left.ensures.value c.ranges-left.ensures.sorted) (rw c.ranges-right.ensures.value c.ranges-right.ensures.sorted) (omega arith) (omega arith) (omega arith) c.if-left-i.true s (c.merge.invariant.first s h k) (c.merge.invariant.second s h k);
  second = c.merge.invariant.second;
}

pub merge-preserved : goal.merge-preserved
merge-preserved c = record {
  left_in = c.merge.invariant.left_in;
  right_in = omega arith;
  first = c.merge.invariant.first;
  second = λ s h k. passed c.ranges-right.result.now c.ranges-left.result.now c.merge.j c.merge.i (rw c.ranges-right.ensures.value c.ranges-right.ensures.sorted) (rw c.ranges-left.ensures.value c.ranges-left.ensures.sorted) (omega arith) (omega arith) (omega arith) (omega arith) s (c.merge.invariant.second s h k) (c.merge.invariant.first s h k);
}
