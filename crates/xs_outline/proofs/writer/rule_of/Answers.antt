use Rattle.xs_outline.proofs.Walking.{no_third}
use Rattle.xs_outline.proofs.writer.rule_of.Goals as goal

pub unreachable-requires : goal.unreachable-requires
unreachable-requires c = no_third c.args.tree.now c.args.part c.requires.part c.requires.node c.in-None.ensures
