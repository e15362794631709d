use Rattle.std.proofs.Common.{List, ℕ, length}
use Rattle.xs_lex.specs.Spelling.{IsQuoted}
use Rattle.xs_outline.proofs.Units.{CanEnd, IsBegun}
use Rattle.xs_outline.proofs.quoted.quoted.Given as goal

abbrev pub invariant-units : goal.invariant-units
invariant-units l = record {
  still : (v : List ℕ) → IsQuoted l.text v → CanEnd l.rest;
  begun : IsBegun l.text l.rest l.word;
}

abbrev pub decreases-units : goal.decreases-units
decreases-units l = length l.rest
