use Rattle.std.proofs.Common.{◌≡◌, ◌+◌, drop}
use Rattle.xs_tree.specs.Counts.{capped}
use Rattle.xs_text_out.specs.Shares.{own_lengths}
use Rattle.xs_text_out.proofs.shares.own_lengths.Given as goal

abbrev pub invariant-items : goal.invariant-items
invariant-items l = record {
  so_far : capped (l.length + own_lengths l.g (drop l.item-index l.items)) ≡ capped (own_lengths l.g l.items);
  small : capped l.length ≡ l.length;
}
