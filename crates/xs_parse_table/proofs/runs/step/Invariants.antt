use Rattle.std.proofs.Common.{ℕ}
use Rattle.xs_regex.specs.Automaton.{HasAt, Leads}
use Rattle.xs_regex.specs.Marked.{Marked}
use Rattle.xs_parse_table.proofs.runs.step.Given as goal

abbrev pub invariant-rows : goal.invariant-rows
invariant-rows l = (k : ℕ) → Marked l.next k → (j : ℕ) × Marked l.reached j × Leads l.p j k × HasAt l.p k l.symbol
