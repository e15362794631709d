use Rattle.std.proofs.Common.{sym, subst}
use Rattle.xs_pair.specs.Directories.{IsDistinct}
use Rattle.xs_pair.specs.Marks.{slot_names}
use Rattle.xs_pair.proofs.Once.{once_left}
use Rattle.xs_pair.proofs.outline.Outline.fails_kind.Goals as goal

pub has_two_names-requires-clause-distinct : goal.has_two_names-requires-clause-distinct
has_two_names-requires-clause-distinct c =
    subst IsDistinct (sym c.slots-slots.ensures) (once_left (slot_names c.args.slotted.now.left) (slot_names c.args.slotted.now.right) c.requires.once)
