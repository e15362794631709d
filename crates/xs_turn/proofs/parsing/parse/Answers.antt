use Rattle.std.proofs.Common.{subst}
use Rattle.xs_gram.specs.Grammar.{Grammar}
use Rattle.xs_gram.specs.Languages.{HasTree}
use Rattle.xs_tree.specs.Flat.{common_of}
use Rattle.xs_turn.proofs.Sides.{fits_both}
use Rattle.xs_turn.proofs.parsing.parse.Goals as goal

pub returns-in-Some-clause-fits : goal.returns-in-Some-clause-fits
returns-in-Some-clause-fits c same starts =
    let has = subst (λ (g : Grammar). HasTree g c.args.doc.now (common_of c.in-Some.tree)) c.gram.ensures (rw c.in-Some.is at c.in_ok-tree.ensures) in
    fits_both c.args.two.now c.requires.text c.requires.xml same starts c.args.side c.args.doc.now (common_of c.in-Some.tree) has
