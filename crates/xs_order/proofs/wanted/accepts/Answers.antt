use Rattle.xs_order.proofs.Empty.{accepts_wanted}
use Rattle.xs_order.proofs.Live.{has_any}
use Rattle.xs_order.proofs.wanted.accepts.Goals as goal

pub returns-in-EmptyWord : goal.returns-in-EmptyWord
returns-in-EmptyWord c = rw c.in-EmptyWord.is (accepts_wanted c.args.automaton.now)

pub returns-in_ok-has-in-AnyWord : goal.returns-in_ok-has-in-AnyWord
returns-in_ok-has-in-AnyWord c = rw c.in-AnyWord.is (has_any c.in_ok-has-in-AnyWord.ensures)
