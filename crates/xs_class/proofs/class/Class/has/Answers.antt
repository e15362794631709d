use Rattle.std.proofs.Common.{List, ℕ, arith}
use Rattle.std.proofs.lemmas.Bool.{ltb-true}
use Rattle.xs_class.proofs.Members.{has_where_begun, has_where_none_begun}
use Rattle.xs_class.proofs.class.Class.has.Goals as goal

pub returns-then-begun-gt0 : goal.returns-then-begun-gt0
returns-then-begun-gt0 c =
    let items : List (ℕ × ℕ) = c.self.inside.ranges.items in
    rw (← c.self.view_is, ← c.number-number.ensures) (has_where_begun items c.number-number.result c.begun_by-begun.result c.index.result.now c.self.invariant (rw c.deref.ensures.value at c.begun_by-begun.ensures.within) (rw c.deref.ensures.value at c.begun_by-begun.ensures.parted) c.if-begun-gt0.true c.index.ensures)

pub returns-else-begun-gt0 : goal.returns-else-begun-gt0
returns-else-begun-gt0 c =
    let items : List (ℕ × ℕ) = c.self.inside.ranges.items in
    rw (← c.self.view_is, ← c.number-number.ensures) (
      λ t. absurd (omega (arith, ltb-true _ _ t)),
      λ h. absurd (has_where_none_begun items c.number-number.result c.begun_by-begun.result c.self.invariant (rw c.deref.ensures.value at c.begun_by-begun.ensures.within) (rw c.deref.ensures.value at c.begun_by-begun.ensures.parted) c.if-begun-gt0.false h),
    )
