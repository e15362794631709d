use Rattle.xs_tree.specs.Flat.{Leaf}
use Rattle.xs_tree.proofs.Trees.{trees_push}
use Rattle.xs_tree.proofs.builder.Builder.leaf.Goals as goal

pub returns-clause-means : goal.returns-clause-means
returns-clause-means c = rw (c.in_ok-push_leaf.ensures.ok, c.self.view_is) (trees_push c.args.self.now (Leaf c.args.word.now))
