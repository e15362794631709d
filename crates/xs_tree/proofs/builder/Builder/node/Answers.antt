use Rattle.xs_tree.specs.Flat.{Node}
use Rattle.xs_tree.proofs.Trees.{trees_push}
use Rattle.xs_tree.proofs.builder.Builder.node.Goals as goal

pub returns-clause-means : goal.returns-clause-means
returns-clause-means c = rw (c.in_ok-push_node.ensures.ok, c.self.view_is) (trees_push c.args.self.now (Node c.args.production c.args.kids.now))
