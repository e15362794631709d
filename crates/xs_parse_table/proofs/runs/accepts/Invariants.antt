use Rattle.std.proofs.Common.{ℕ, take}
use Rattle.xs_regex.specs.Automaton.{Runs}
use Rattle.xs_regex.specs.Marked.{Marked}
use Rattle.xs_parse_table.proofs.runs.accepts.Given as goal

abbrev pub invariant-symbols : goal.invariant-symbols
invariant-symbols l = (k : ℕ) → Marked l.reached k → Runs l.p (take l.place l.word) k
