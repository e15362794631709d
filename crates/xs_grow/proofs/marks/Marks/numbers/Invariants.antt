use Rattle.std.proofs.Common.{suc, zero}
use Rattle.std.specs.Option.{option_map_or}
use Rattle.xs_grow.proofs.Marking.{IsDown}
use Rattle.xs_grow.proofs.marks.Marks.numbers.Given as goal

abbrev pub invariant-places : goal.invariant-places
invariant-places g l = IsDown l.self l.label l.place l.initial.out.items l.out.items

abbrev pub decreases-places : goal.decreases-places
decreases-places g l = option_map_or suc l.place zero
