use Rattle.std.proofs.Common.{sym, ◌∙◌, ap, arith}
use Rattle.std.specs.Prelude.{slice_set}
use Rattle.xs_tree.proofs.Trees.{length-trees}
use Rattle.xs_turn.proofs.table.place_leaf.Goals as goal

pub returns : goal.returns
returns c = λ t. record {
  below = omega arith;
  leaf = c.in_ok-number.ensures.means;
  put = ap (slice_set c.args.kids.now.items c.args.slot) (c.in_ok-number.ensures.number ∙ sym (length-trees c.args.builder.now));
}
