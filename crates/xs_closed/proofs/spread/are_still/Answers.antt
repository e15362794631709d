use Rattle.std.proofs.Common.{inl, inr}
use Rattle.xs_closed.proofs.spread.are_still.Goals as goal

pub returns-then-is_still-clause-edges : goal.returns-then-is_still-clause-edges
returns-then-is_still-clause-edges c = λ _. inl (c.is_still.ensures.edges c.if-is_still.true)

pub returns-then-is_still-clause-calls : goal.returns-then-is_still-clause-calls
returns-then-is_still-clause-calls c = λ _. inl (c.is_still.ensures.calls c.if-is_still.true)

pub returns-clause-edges : goal.returns-clause-edges
returns-clause-edges c = λ e. inr (c.is_still-2.ensures.edges e)

pub returns-clause-calls : goal.returns-clause-calls
returns-clause-calls c = λ e. inr (c.is_still-2.ensures.calls e)
