use Rattle.std.proofs.Common.{◌∙◌, sym, ap, subst, length}
use Rattle.xs_tree.specs.Counts.{capped_count}
use Rattle.xs_tree.specs.Flat.{IsAfter, tree_of}
use Rattle.xs_tree.specs.Lent.{lent}
use Rattle.xs_tree.proofs.Counting.{node_counted}
use Rattle.xs_tree.proofs.count.part_count.Goals as goal

pub returns-in-Node : goal.returns-in-Node
returns-in-Node c trees is =
    let after = subst (λ p. IsAfter (lent p) (length c.args.counts.now)) c.in-Node.is c.requires in
    node_counted trees c.args.counts.now c.in-Node.kids.now c.in-Node.production c.node_count.result c.node_count.ensures after is ∙ ap (λ p. capped_count (tree_of trees (lent p))) (sym c.in-Node.is)
