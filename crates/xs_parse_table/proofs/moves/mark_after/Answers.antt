use Rattle.std.proofs.Common.{inl, inr, sym}
use Rattle.std.proofs.lemmas.Option.{get_or_from_slice_get}
use Rattle.xs_parse_table.proofs.Building.{come_first, come_next}
use Rattle.xs_parse_table.proofs.moves.mark_after.Goals as goal

pub returns-then-row-eq0-clause-marked : goal.returns-then-row-eq0-clause-marked
returns-then-row-eq0-clause-marked c = λ k m. elim (c.mark.ensures.marked k m) [
  | inl a ↦ inl a
  | inr b ↦ inr (come_first c.args.p.now c.args.sets.now c.args.row k c.if-row-eq0.true (rw c.as_slice.ensures at b))
]

pub returns-clause-marked : goal.returns-clause-marked
returns-clause-marked c = λ k m. elim (c.mark_next.ensures.marked k m) [
  | inl a ↦ inl a
  | inr b ↦ inr (come_next c.args.p.now c.args.sets.now c.args.row k c.at.result.now c.if-row-eq0.false c.requires (sym (get_or_from_slice_get c.args.sets.now _ c.at.result.now c.at.result.now c.at.ensures)) b)
]
