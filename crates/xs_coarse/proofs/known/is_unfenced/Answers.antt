use Rattle.std.proofs.Common.{arith}
use Rattle.xs_coarse.proofs.Labelling.{unfenced_from}
use Rattle.xs_coarse.proofs.known.is_unfenced.Goals as goal

pub returns : goal.returns
returns c = λ t. unfenced_from c.args.fences.now c.args.class.now (λ k d lt. c.fences.invariant k d (omega (arith, lt, c.fences-test.false)))
