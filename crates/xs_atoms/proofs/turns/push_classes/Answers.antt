use Rattle.xs_atoms.proofs.Turning.{class_pushed}
use Rattle.xs_atoms.proofs.turns.push_classes.Goals as goal

pub classes-preserved : goal.classes-preserved
classes-preserved c = class_pushed c.classes.turns.items c.push_turns.new.turns.items c.args.turns.now.items c.args.distinct.now c.classes.number c.at.result.now c.at.ensures c.classes.invariant c.in_ok-push_turns.ensures
