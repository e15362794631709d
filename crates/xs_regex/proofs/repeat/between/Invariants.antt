use Rattle.std.proofs.Common.{◌-◌, Some}
use Rattle.xs_regex.specs.Automaton.{Accepts}
use Rattle.xs_regex.specs.Matches.{Repeats}
use Rattle.xs_regex.specs.Parts.{IsAutomaton, IsSure}
use Rattle.xs_regex.specs.Size.{times}
use Rattle.xs_regex.specs.Links.{Shape, copies_between, HasLinks}
use Rattle.xs_regex.proofs.repeat.between.Given as goal

-- the copies after have what is wanted of them where all the copies before are full
abbrev pub invariant-copies : goal.invariant-copies
invariant-copies l = IsAutomaton (Repeats (Accepts l.one) (l.least - (l.most - l.later)) (Some l.later)) (times l.later l.one.classes) (IsSure l.one l.least (Some l.most)) l.all × ((s : Shape) → HasLinks s l.one → HasLinks (copies_between (l.least - (l.most - l.later)) l.later s) l.all)
