use Rattle.std.proofs.Common.{arith}
use Rattle.xs_coarse.proofs.Labelling.{kept_set}
use Rattle.xs_coarse.proofs.labels.Labels.part.Goals as goal

pub invariant_of-self : goal.invariant_of-self
invariant_of-self c =
    kept_set (record { classes = c.self.inside.known.classes.items; groups = c.self.inside.groups; bits = c.self.inside.bits.items }) c.self.inside.width c.len-before.result c.args.h c.args.k c.self.invariant
    (omega (arith, c.len-before.ensures, c.self.inside.known.classes.ok)) (rw (← c.self.view_is) at c.requires.first) (rw (← c.self.view_is) at c.requires.second)
