use Rattle.xs_turn.proofs.Sides.{guess_translated}
use Rattle.xs_turn.proofs.translating.translate.Goals as goal

pub returns-in-Some-clause-translated : goal.returns-in-Some-clause-translated
returns-in-Some-clause-translated c =
    let found = rw c.in-Some.is at c.in_ok-word.ensures in
    guess_translated c.args.two.now c.requires.text c.requires.xml c.args.from c.args.to c.args.doc.now c.in-Some.word _ _ c.gram.ensures c.gram-2.ensures found
