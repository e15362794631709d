use Rattle.std.proofs.Common.{◌≡◌, ◌≤◌, ◌+◌, ℕ, suc, List, length, sym, ap, ◌∙◌, subst, arith}
use Rattle.std.proofs.lemmas.Option.{slice_get_within}
use Rattle.xs_class.proofs.Lists.{len_is}
use Rattle.xs_forest_laws.specs.declared.span.SpanKey.{SpanKey}
use Rattle.xs_grow.specs.Lists.{Appends}
use Rattle.xs_grow.specs.Sorted.{AreInOrder}
use Rattle.xs_grow.proofs.Sorting.{IsEarlierNumber, numbers_here, numbers_other, numbers_all, none_after, mark_read, told_true, told_false}
use Rattle.xs_grow.proofs.sorted.Sorted.numbers.Goals as goal
use Rattle.xs_grow.proofs.sorted.Sorted.numbers.Goals.{then-is_same+in_ok-push, else-is_same}

pub returns-then-comes_before : goal.returns-then-comes_before
returns-then-comes_before c =
    let marks = c.args.self.now in
    let label = c.args.label in
    let k = c.marks.k in
    let mark = c.index.result.now in
    let at = mark_read c.self.inside.marks.items marks k mark c.self.view_is (omega (arith, len_is c.self.inside.marks)) c.index.ensures in
    let ordered = subst (λ (z : List (SpanKey × ℕ)). AreInOrder z) c.self.view_is c.self.invariant.0 in
    numbers_all marks label k c.args.out.now.items c.marks.out.items (none_after marks label k mark ordered at (sym c.comes_before.ensures ∙ c.if-comes_before.true)) c.marks.invariant

pub marks-preserved : goal.marks-preserved
marks-preserved c =
    let marks = c.args.self.now in
    let label = c.args.label in
    let k = c.marks.k in
    let mark = c.index.result.now in
    let old = c.args.out.now.items in
    let at = mark_read c.self.inside.marks.items marks k mark c.self.view_is (omega (arith, len_is c.self.inside.marks)) c.index.ensures in
    let one : k + 1 ≡ suc k = omega arith in
    let next : Appends (IsEarlierNumber marks label (suc k)) old c.if-is_same.out.items = elim c.if-is_same.branch [
      | then-is_same+in_ok-push w ↦ numbers_here marks label k mark.1 mark.0 old c.marks.out.items c.if-is_same.out.items c.requires at (told_true (mark.0 ≡ label) (mark.0 ≡ label → ⊥) c.is_same.result w.if-is_same.true c.is_same.ensures) (ap (λ v. v.items) w.out-is ∙ w.in_ok-push.ensures.items) c.marks.invariant
      | else-is_same w ↦ subst (λ (z : List ℕ). Appends (IsEarlierNumber marks label (suc k)) old z) (sym (ap (λ v. v.items) w.out-is)) (numbers_other marks label k mark.1 mark.0 old c.marks.out.items at (told_false (mark.0 ≡ label) (mark.0 ≡ label → ⊥) c.is_same.result w.if-is_same.false c.is_same.ensures) c.marks.invariant)
    ] in
    subst (λ (z : ℕ). Appends (IsEarlierNumber marks label z) old c.if-is_same.out.items) (sym one) next

pub returns : goal.returns
returns c =
    let marks = c.args.self.now in
    let label = c.args.label in
    let long = ap length c.self.view_is in
    let end : length marks ≤ c.marks.k = omega (arith, len_is c.self.inside.marks) in
    numbers_all marks label c.marks.k c.args.out.now.items c.marks.out.items (λ m n le at. let lt = slice_get_within marks m (label, n) at in absurd (omega arith)) c.marks.invariant
