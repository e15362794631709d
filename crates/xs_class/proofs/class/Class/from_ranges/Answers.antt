use Rattle.std.proofs.Common.{rules, ℕ, IsPermutation}
use Rattle.std.proofs.lemmas.List.Sorted.{IsNonDecreasingBy-from_sort_by_key}
use Rattle.xs_class.proofs.Merging.{same_permuted, same_through}
use Rattle.xs_class.proofs.class.Class.from_ranges.Goals as goal

pub joined-requires : goal.joined-requires
joined-requires c =
    rw c.deref.ensures.value (IsNonDecreasingBy-from_sort_by_key (λ (r : ℕ × ℕ). r.0) _ c.sort_unstable_by_key.ensures.sorted (λ a r q k. search rules))

pub returns : goal.returns
returns c =
    let moved : IsPermutation c.args.ranges.now c.deref.result.now = rw (c.deref.ensures.value, ← c.in_ok-sorted.ensures.items) c.sort_unstable_by_key.ensures.permutation in
    same_through c.joined.result c.deref.result.now c.args.ranges.now (same_permuted _ _ moved) c.joined.ensures
