use Rattle.std.proofs.Common.{length}
use Rattle.xs_lex.proofs.Reached.{Reached}
use Rattle.xs_lex.proofs.reading.scanned.Given as goal

abbrev pub invariant-tokens : goal.invariant-tokens
invariant-tokens l = Reached l.bytes l.list.items l.location.at l.location.line l.rest

abbrev pub decreases-tokens : goal.decreases-tokens
decreases-tokens l = length l.rest
