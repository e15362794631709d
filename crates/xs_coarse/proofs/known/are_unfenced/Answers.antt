use Rattle.std.proofs.Common.{[], length, inl, inr, sym, subst, arith}
use Rattle.std.proofs.lemmas.Bool.{cases_lt}
use Rattle.std.proofs.lemmas.List.{get_or_past}
use Rattle.xs_gram.specs.Fences.{IsUnfenced}
use Rattle.xs_coarse.proofs.known.are_unfenced.Goals as goal

pub returns : goal.returns
returns c = λ t k. elim (cases_lt k (length c.args.classes.now)) [
  | inl lt ↦ c.classes.invariant k (omega (arith, lt, c.classes-test.false))
  | inr le ↦ subst (λ x. IsUnfenced c.args.fences.now x) (sym (get_or_past c.args.classes.now k [] le)) (λ s h. absurd h)
]
