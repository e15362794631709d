use Rattle.std.proofs.Common.{inl, inr, arith}
use Rattle.std.proofs.lemmas.Bool.{cases_eq}
use Rattle.xs_coarse_net.proofs.Leftover.{row_there}
use Rattle.xs_coarse_net.proofs.reach.is_closed.Goals as goal

pub nons-preserved : goal.nons-preserved
nons-preserved c = λ x h low. elim (cases_eq x.from c.nons.non) [
  | inl e ↦ c.has_row.ensures c.if-has_row.true x (row_there c.args.uses.now c.nons.non c.row.result.now c.row.ensures.complete x e h)
  | inr ne ↦ c.nons.invariant x h (omega (arith, low, ne))
]
