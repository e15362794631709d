use Rattle.std.proofs.Common.{◌⊎◌, ℕ, Contains}
use Rattle.xs_regex.specs.Marked.{Marked}
use Rattle.xs_parse_table.proofs.moves.mark.Given as goal

abbrev pub invariant-positions : goal.invariant-positions
invariant-positions l = (k : ℕ) → Marked l.flags k → Marked l.initial.flags k ⊎ Contains l.positions k
