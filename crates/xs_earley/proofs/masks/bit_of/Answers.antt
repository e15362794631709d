use Rattle.xs_earley.proofs.Maskings.{bit_own}
use Rattle.xs_earley.proofs.masks.bit_of.Goals as goal

pub returns : goal.returns
returns c = rw c.from.ensures (bit_own c.args.atom)
