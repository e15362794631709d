use Rattle.std.proofs.Common.{◌≤◌, min, max, None}
use Rattle.xs_regex.specs.Automaton.{Accepts}
use Rattle.xs_regex.specs.Matches.{Repeats}
use Rattle.xs_regex.specs.Parts.{IsAutomaton, IsSure}
use Rattle.xs_regex.specs.Size.{times}
use Rattle.xs_regex.specs.Links.{Shape, least_copies, HasLinks}
use Rattle.xs_regex.proofs.repeat.at_least.Given as goal

-- before the first step there is the last copy, which is free where none is wanted
abbrev pub invariant-copies : goal.invariant-copies
invariant-copies l = (l.later ≤ max l.least 1) × IsAutomaton (Repeats (Accepts l.one) (min l.later l.least) None) (times l.later l.one.classes) (IsSure l.one l.least None) l.all × ((s : Shape) → HasLinks s l.one → HasLinks (least_copies (min l.later l.least) s) l.all)
