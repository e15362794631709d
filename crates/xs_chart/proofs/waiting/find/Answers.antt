use Rattle.std.proofs.Common.{◌≡◌, ◌+◌, ◌-◌, map, slice_range, ◌∙◌, ap, rules, arith}
use Rattle.std.specs.Prelude.{nat_lt}
use Rattle.std.proofs.lemmas.List.Sorted.{IsPartitionPoint-from_clause, IsPartitionedBy-ltb}
use Rattle.xs_chart.specs.Charted.{number_of, non_of}
use Rattle.xs_chart.proofs.Grouping.{stretch_of}
use Rattle.xs_chart.proofs.waiting.find.Goals as goal

pub returns-clause-is : goal.returns-clause-is
returns-clause-is c =
    let waits = c.args.waits.now in
    let non = c.args.non in
    let from = c.partition_point-from.result in
    let end = c.group_end-end.result in
    let g = c.group_end-end.ensures in
    let first = IsPartitionPoint-from_clause (λ w. nat_lt (non_of w) non) waits from c.partition_point-from.ensures.partitioned (IsPartitionedBy-ltb non_of waits non c.requires) (λ a r q k. search rules) in
    let last : end ≡ from + (end - from) = let le = g.from in omega (arith, le) in
    ap (map number_of) (stretch_of waits non from end g.from g.within c.requires first g.same g.other ∙ ap (slice_range waits from) last)
