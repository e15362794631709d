use Rattle.xs_turn.proofs.Sides.{guess_rewritten}
use Rattle.xs_turn.proofs.rewriting.rewrite.Goals as goal

pub returns-in-Some-clause-rewritten : goal.returns-in-Some-clause-rewritten
returns-in-Some-clause-rewritten c =
    let found = rw c.in-Some.is at c.in_ok-bytes.ensures in
    guess_rewritten c.args.two.now c.requires.text c.requires.xml c.args.from c.args.to c.args.doc.now c.in-Some.bytes _ _ _ c.names.ensures c.gram.ensures c.gram-2.ensures found
