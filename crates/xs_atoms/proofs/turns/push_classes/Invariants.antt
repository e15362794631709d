use Rattle.std.proofs.Common.{◌≡◌, ◌++◌, take}
use Rattle.xs_atoms.specs.Turns.{class_turns}
use Rattle.xs_atoms.proofs.turns.push_classes.Given as goal

abbrev pub invariant-classes : goal.invariant-classes
invariant-classes l = l.turns.items ≡ l.initial.turns.items ++ class_turns 0 (take l.number l.distinct)
