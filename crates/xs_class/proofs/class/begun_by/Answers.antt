use Rattle.std.proofs.Common.{rules, List, ℕ}
use Rattle.std.proofs.lemmas.Bool.{leb-true, leb-false}
use Rattle.std.proofs.lemmas.List.Sorted.{IsPartitionPoint-from_clause}
use Rattle.xs_class.proofs.Members.{begins_by, begins_in_order}
use Rattle.xs_class.proofs.class.begun_by.Goals as goal

pub returns-clause-parted : goal.returns-clause-parted
returns-clause-parted c =
    let items : List (ℕ × ℕ) = c.args.ranges.now in
    let point = IsPartitionPoint-from_clause (begins_by c.args.number) items _ c.partition_point.ensures.partitioned (begins_in_order items c.args.number c.requires) (λ a r q k. search rules) in
    (λ k d h l. leb-true _ _ (point.0 k d h l), λ k d h l. leb-false _ _ (point.1 k d h l))
