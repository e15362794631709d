use Rattle.std.proofs.Common.{inl, inr, arith}
use Rattle.xs_parse_table.proofs.Building.{marked_within}
use Rattle.xs_parse_table.proofs.moves.may_come.Goals as goal

pub returns-clause-come : goal.returns-clause-come
returns-clause-come c = λ k h. elim (c.mark_after.ensures.marked k (c.in_ok-list.ensures k h)) [ inl a ↦ absurd (c.clear.ensures.none k a) | inr b ↦ b ]

pub returns-clause-within : goal.returns-clause-within
returns-clause-within c = λ k h. omega (arith, marked_within c.mark_after.new.flags k (c.in_ok-list.ensures k h), c.mark_after.ensures.length, c.clear.ensures.length, c.requires.room)
