use Rattle.std.proofs.Common.{List, ℕ, arith}
use Rattle.xs_class.proofs.Merging.{gapped_more, gapped_on, gapped_last, gapped_full}
use Rattle.xs_class.proofs.class.gaps.Goals.{then-next-from+in_ok-add, else-next-from, then-next-from-2+in_ok-add-2, else-next-from-2}
use Rattle.xs_class.proofs.class.gaps.Goals as goal

pub gaps-preserved : goal.gaps-preserved
gaps-preserved c =
    let ranges : List (ℕ × ℕ) = c.args.ranges.now in
    rw c.from-next.ensures (elim c.if-next-from.branch [
      | then-next-from+in_ok-add w ↦ rw w.between-is (gapped_more ranges c.gaps.range-index c.gaps.next c.gaps.between.items w.add.new.ranges.items c.gaps-test.true c.gaps.invariant (rw c.from.ensures at w.if-next-from.true) w.in_ok-add.ensures)
      | else-next-from w ↦ rw w.between-is (gapped_on ranges c.gaps.range-index c.gaps.next c.gaps.between.items c.gaps-test.true c.gaps.invariant (rw c.from.ensures at w.if-next-from.false))
    ])

pub returns : goal.returns
returns c =
    let ranges : List (ℕ × ℕ) = c.args.ranges.now in
    elim c.if-next-from-2.branch [
      | then-next-from-2+in_ok-add-2 w ↦ rw w.between-is (gapped_last ranges c.gaps.range-index c.gaps.next c.gaps.between.items w.add-then-next-from-2.new.ranges.items c.gaps-test.false c.gaps.invariant (omega (arith, w.if-next-from-2.true)) w.in_ok-add-2.ensures)
      | else-next-from-2 w ↦ rw w.between-is (gapped_full ranges c.gaps.range-index c.gaps.next c.gaps.between.items c.gaps.invariant (omega (arith, w.if-next-from-2.false)))
    ]
