use Rattle.std.proofs.Common.{◌≡◌, ◌++◌, take}
use Rattle.xs_atoms.specs.Turns.{range_turns}
use Rattle.xs_atoms.proofs.turns.push_turns.Given as goal

abbrev pub invariant-spans : goal.invariant-spans
invariant-spans l = l.turns.items ≡ l.initial.turns.items ++ range_turns l.class (take l.range-index l.ranges)
