use Rattle.std.proofs.Common.{ℕ, Contains}
use Rattle.xs_regex.specs.Marked.{Marked}
use Rattle.xs_parse_table.proofs.moves.marked.Given as goal

abbrev pub invariant-flags : goal.invariant-flags
invariant-flags l = (k : ℕ) → Contains l.list.items k → Marked l.flags k
