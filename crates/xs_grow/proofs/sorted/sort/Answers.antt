use Rattle.std.proofs.Common.{ℕ, rules}
use Rattle.std.specs.Ordering.{is_lt}
use Rattle.std.proofs.lemmas.Fn.{always_returns_same}
use Rattle.std.proofs.lemmas.List.Sorted.{ranks_by}
use Rattle.xs_forest_laws.specs.declared.span.SpanKey.{SpanKey}
use Rattle.xs_grow.specs.Sorted.{compare}
use Rattle.xs_grow.proofs.Sorting.{order, in_order}
use Rattle.xs_grow.proofs.sorted.sort.Goals as goal

pub returns-clause-sorted : goal.returns-clause-sorted
returns-clause-sorted c =
    in_order c.sort_unstable_by.new.self.items (c.sort_unstable_by.ensures.sorted (λ (a b : SpanKey × ℕ). is_lt (compare a.0 b.0)) (ranks_by order (λ (m : SpanKey × ℕ). m)) (always_returns_same _ _ _ (λ a r f k. search rules)))
