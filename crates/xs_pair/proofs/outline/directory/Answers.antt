use Rattle.std.proofs.Common.{arith}
use Rattle.xs_pair.proofs.Shorter.{names_short}
use Rattle.xs_pair.proofs.outline.directory.Goals as goal

pub of-requires : goal.of-requires
of-requires c = rw c.in_ok-names.ensures (omega (arith, names_short c.args.sort c.args.units.now, c.requires))
