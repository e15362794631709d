use Rattle.std.proofs.Common.{◌≡◌, ◌+◌, drop}
use Rattle.xs_lex.specs.Reading.{size_of, line_ends}
use Rattle.xs_lex.proofs.location.Location.past.Given as goal

abbrev pub invariant-text : goal.invariant-text
invariant-text l = record {
  at : l.at + size_of (drop l.c-index l.text) ≡ l.initial.at + size_of l.text;
  line : l.line + line_ends (drop l.c-index l.text) ≡ l.initial.line + line_ends l.text;
}
