use Rattle.std.proofs.Common.{ℕ, get_or, rules, arith}
use Rattle.std.specs.Ordering.{is_lt}
use Rattle.std.proofs.lemmas.List.Sorted.{IsPartitionPoint-from_clause}
use Rattle.std.proofs.lemmas.Option.{get_or_from_slice_get}
use Rattle.xs_forest_laws.specs.declared.span.SpanKey.{SpanKey}
use Rattle.xs_grow.specs.Sorted.{compare}
use Rattle.xs_grow.proofs.Sorting.{parted, none_before}
use Rattle.xs_grow.proofs.sorted.before.Goals as goal

pub returns-clause-before : goal.returns-clause-before
returns-clause-before c = λ k n lt at.
    let marks = c.args.marks.now in
    let label = c.args.label in
    let mark : SpanKey × ℕ = (label, n) in
    let point = IsPartitionPoint-from_clause (λ (m : SpanKey × ℕ). is_lt (compare m.0 label)) marks _ c.partition_point.ensures.partitioned (parted marks label c.requires) (λ a r q k. search rules) in
    none_before marks label k n (get_or marks k mark) at (get_or_from_slice_get marks k mark mark at) (point.0 k mark (omega arith) lt)
