use Rattle.std.proofs.Common.{◌⊎◌, ℕ, Contains}
use Rattle.xs_regex.specs.Automaton.{Leads}
use Rattle.xs_regex.specs.Marked.{Marked}
use Rattle.xs_parse_table.proofs.moves.mark_next.Given as goal

abbrev pub invariant-set : goal.invariant-set
invariant-set l = (k : ℕ) → Marked l.flags k → Marked l.initial.flags k ⊎ ((j : ℕ) × Contains l.set j × Leads l.p j k)
