use Rattle.xs_auto.specs.Nets.{moves_of}
use Rattle.xs_closed.specs.Search.{OneOf, IsPair}
use Rattle.xs_closed.proofs.PartnerLemmas.{partners_more, partners_lack, partners_done}
use Rattle.xs_closed.proofs.testing.rows.moved_need.Goals as goal

pub returns-in_err-need : goal.returns-in_err-need
returns-in_err-need c = rw c.from_residual.ensures (partners_lack c.args.set.now c.args.set.now c.args.a (λ b. OneOf (moves_of c.args.n.now b) (IsPair c.args.a)) c.partners.from c.in-Some.b c.in-Some.ensures.some (rw c.moves.ensures.value at c.in_err-need.ensures))

pub partners-preserved : goal.partners-preserved
partners-preserved c = partners_more c.args.set.now c.args.set.now c.args.a (λ b. OneOf (moves_of c.args.n.now b) (IsPair c.args.a)) c.partners.from c.in-Some.b c.args.need c.partners.need c.in_ok-need.need c.in-Some.ensures.some c.partners.invariant (rw c.moves.ensures.value at c.in_ok-need.ensures)

pub returns : goal.returns
returns c = partners_done c.args.set.now c.args.set.now c.args.a (λ b. OneOf (moves_of c.args.n.now b) (IsPair c.args.a)) c.partners.from c.args.need c.partners.need c.in_default.ensures.none c.partners.invariant
