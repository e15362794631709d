use Rattle.xs_class.specs.Classes.{Has}
use Rattle.xs_pair.proofs.Places.{get_at, when_true}
use Rattle.xs_pair.proofs.Lines.{some_at}
use Rattle.xs_pair.proofs.Decided.{yes}
use Rattle.xs_pair.proofs.inside.has_one.Goals as goal

pub returns-then-has : goal.returns-then-has
returns-then-has c =
    yes (some_at (Has c.args.class.now) c.args.letters.now c.letters.letter-index c.letter-item.result (get_at c.args.letters.now c.letters.letter-index c.letter-item.result c.letters-test.true c.letter-item.is)
    (when_true c.has.result c.has.ensures c.if-has.true))
