use Rattle.xs_order.proofs.Steps.{added_one}
use Rattle.xs_order.proofs.words.add_step.Goals as goal

pub returns : goal.returns
returns c = rw c.in_ok-push.ensures.items (added_one c.args.automaton.now c.args.from c.args.target c.args.clauses.now.items (record { head = c.args.target; premises = c.in_ok-premises.premises }) (c.has_symbol.ensures.0 c.if-not-has_symbol.false) (λ i. record { head = c.args.target; premises = c.in_ok-premises.ensures i }))
