use Rattle.std.proofs.Common.{◌↔◌, ℕ}
use Rattle.std.specs.Prelude.{Contains, slice_range}
use Rattle.xs_regex.specs.Automaton.{Runs}
use Rattle.xs_grow.specs.Lists.{HasAllOf}
use Rattle.xs_grow.specs.Running.{AcceptsTo}
use Rattle.xs_grow.proofs.runs.ends_from.Given as goal

abbrev pub invariant-symbols : goal.invariant-symbols
invariant-symbols l = record {
  reached : (k : ℕ) → Contains l.reached.items k ↔ Runs l.p (slice_range l.doc l.from l.at) k;
  ends : HasAllOf (AcceptsTo l.p l.doc l.from l.at) l.ends.items;
}
