use Rattle.std.proofs.Common.{subst, arith, inl, inr}
use Rattle.std.proofs.lemmas.Bool.{cases_eq}
use Rattle.std.proofs.lemmas.Option.{slice_get_within}
use Rattle.xs_grow.specs.Candidates.{IsLater}
use Rattle.xs_grow.proofs.gather.any_later.Goals as goal

pub dots-preserved : goal.dots-preserved
dots-preserved c = λ n lt later. elim (cases_eq n c.dots.dot) [
  | inl e ↦ c.if-is_later.ensures (subst (λ z. IsLater c.args.items.now z) e later)
  | inr ne ↦ c.dots.invariant n (omega arith) later
]

pub returns : goal.returns
returns c = λ n later. let within = slice_get_within c.args.items.now n later.0 later.1 in let end = c.dots-test.false in c.dots.invariant n (omega arith) later
