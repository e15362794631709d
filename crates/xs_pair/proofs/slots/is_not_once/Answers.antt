use Rattle.std.proofs.Common.{◌≡◌, subst, Some, ℕ, List, slice_get}
use Rattle.std.specs.Prelude.{MatchBool}
use Rattle.xs_pair.specs.Directories.{IsDistinct}
use Rattle.xs_pair.specs.Rules.{HasRepeat, IsAmong, IsAbsent}
use Rattle.xs_pair.proofs.Once.{Has, left_repeats, right_repeats}
use Rattle.xs_pair.proofs.Decided.{yes, has_all_true, has_all_false, last_test}
use Rattle.xs_pair.proofs.slots.is_not_once.Goals as goal

pub returns-then-not-is_distinct : goal.returns-then-not-is_distinct
returns-then-not-is_distinct c =
    yes (left_repeats c.args.left.now c.args.right.now (has_all_false (IsDistinct c.args.left.now) (HasRepeat c.args.left.now) c.is_distinct.result c.is_distinct.ensures c.if-not-is_distinct.true))

pub returns-then-not-is_distinct-2 : goal.returns-then-not-is_distinct-2
returns-then-not-is_distinct-2 c =
    yes (right_repeats c.args.left.now c.args.right.now (has_all_false (IsDistinct c.args.right.now) (HasRepeat c.args.right.now) c.is_distinct-2.result c.is_distinct-2.ensures c.if-not-is_distinct-2.true))

pub returns : goal.returns
returns c =
    let left = c.args.left.now in
    let right = c.args.right.now in
    let back : Has left right = subst (λ l. Has left l) c.as_slice.ensures.list (has_all_true (Has left c.as_slice.result.now) ((k : ℕ) × (name : List ℕ) × (slice_get c.as_slice.result.now k ≡ Some name) × IsAbsent left name) c.has_all.result c.has_all.ensures c.if-not-has_all.false) in
    last_test c.has_all-2.result left right
    (has_all_true (IsDistinct left) (HasRepeat left) c.is_distinct.result c.is_distinct.ensures c.if-not-is_distinct.false)
    (has_all_true (IsDistinct right) (HasRepeat right) c.is_distinct-2.result c.is_distinct-2.ensures c.if-not-is_distinct-2.false)
    back
    (subst (λ (l : List (List ℕ)). MatchBool c.has_all-2.result ((k : ℕ) (name : List ℕ) → slice_get l k ≡ Some name → IsAmong right name) ((k : ℕ) × (name : List ℕ) × (slice_get l k ≡ Some name) × IsAbsent right name)) c.as_slice-2.ensures.list c.has_all-2.ensures)
