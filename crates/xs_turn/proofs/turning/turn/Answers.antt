use Rattle.std.proofs.Common.{subst}
use Rattle.xs_gram.specs.Grammar.{Grammar}
use Rattle.xs_gram.specs.Languages.{HasTree}
use Rattle.xs_tree.specs.Flat.{common_of}
use Rattle.xs_turn.proofs.Sides.{fits_both, tree_in}
use Rattle.xs_turn.proofs.turning.turn.Goals as goal

pub returns-clause-tree : goal.returns-clause-tree
returns-clause-tree c = tree_in c.args.two.now c.args.side c.args.doc.now c.in_ok-grown.grown.forest c.in_ok-grown.grown.root (common_of c.in_ok-tree.tree) c.gram-g.ensures c.in_ok-grown.ensures.exact c.in_ok-tree.ensures

pub returns-clause-fits : goal.returns-clause-fits
returns-clause-fits c same starts =
    let has = subst (λ (g : Grammar). HasTree g c.args.doc.now (common_of c.in_ok-tree.tree)) c.gram-g.ensures c.in_ok-tree.ensures in
    fits_both c.args.two.now c.requires.text c.requires.xml same starts c.args.side c.args.doc.now (common_of c.in_ok-tree.tree) has
