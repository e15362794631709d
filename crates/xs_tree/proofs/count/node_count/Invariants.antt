use Rattle.std.proofs.Common.{◌≡◌, ◌+◌, drop}
use Rattle.xs_tree.specs.Counts.{capped, picked_sum}
use Rattle.xs_tree.proofs.count.node_count.Given as goal

abbrev pub invariant-kids : goal.invariant-kids
invariant-kids l = record {
  so_far : capped (l.count + picked_sum l.counts (drop l.kid-index l.kids)) ≡ capped (1 + picked_sum l.counts l.kids);
  small : capped l.count ≡ l.count;
}
