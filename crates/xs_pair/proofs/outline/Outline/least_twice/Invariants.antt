use Rattle.std.proofs.Common.{◌≡◌, ◌≤◌, take, length}
use Rattle.xs_pair.specs.declared.names.Sort.TheVariants as S
use Rattle.xs_pair.specs.Units as U
use Rattle.xs_pair.specs.Rules.{IsTwice}
use Rattle.xs_pair.specs.Verdict.{IsFirstLine, IsLineWhere}
use Rattle.xs_pair.proofs.outline.Outline.least_twice.Given as goal

abbrev pub invariant-units : goal.invariant-units
invariant-units l = record {
  few : l.lexical ≤ l.unit-index;
  fewer : l.named ≤ l.unit-index;
  names : l.named ≡ length (U.names_of S.Any (take l.unit-index l.units));
  count : l.lexical ≡ length (U.names_of S.Lexical (take l.unit-index l.units));
  first : IsFirstLine (IsLineWhere (IsTwice l.units) U.unit_line (take l.unit-index l.units)) l.least;
}
