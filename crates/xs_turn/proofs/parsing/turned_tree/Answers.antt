use Rattle.xs_tree.specs.Flat.{common_of}
use Rattle.xs_pair.specs.Grammars.{grammar_of}
use Rattle.xs_turn.proofs.Sides.{has_tree}
use Rattle.xs_turn.proofs.parsing.turned_tree.Goals as goal

pub returns-clause-tree : goal.returns-clause-tree
returns-clause-tree c =
    let grown = c.in_ok-turned.turned.grown in
    has_tree (grammar_of c.args.two.now c.args.side) c.args.doc.now grown.forest grown.root (common_of c.in_ok-turned.turned.tree) c.in_ok-turned.ensures.tree

pub returns-clause-fits : goal.returns-clause-fits
returns-clause-fits c same starts = c.in_ok-turned.ensures.fits same starts
