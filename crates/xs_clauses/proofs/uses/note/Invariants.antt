use Rattle.std.proofs.Common.{take}
use Rattle.xs_clauses.specs.Search.{IsNoted}
use Rattle.xs_clauses.proofs.uses.note.Given as goal

abbrev pub invariant-premises : goal.invariant-premises
invariant-premises l = IsNoted (take l.number-index l.premises) l.place l.initial.uses.items l.uses.items
