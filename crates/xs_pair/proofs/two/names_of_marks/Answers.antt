use Rattle.std.proofs.Common.{arith}
use Rattle.xs_pair.proofs.Ready.{names_light}
use Rattle.xs_pair.proofs.two.names_of_marks.Goals as goal

pub of-requires : goal.of-requires
of-requires c = rw (c.deref.ensures.value, c.in_ok-list.ensures, c.requires.rules) (omega (arith, names_light c.args.sheet.now.units, c.requires.small))
