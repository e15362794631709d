use Rattle.xs_earley.proofs.Maskings.{bit_held}
use Rattle.xs_earley.proofs.masks.has_bit.Goals as goal

pub returns : goal.returns
returns c = rw c.from.ensures (bit_held c.args.mask c.args.atom)
