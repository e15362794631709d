use Rattle.std.proofs.Common.{◌≡◌, None, take}
use Rattle.xs_pair.specs.Units.{unit_line}
use Rattle.xs_pair.specs.Verdict.{IsFirstLine, IsLineWhere}
use Rattle.xs_wf.specs.Units.{IsIllUnit, AreFine}
use Rattle.xs_wf.proofs.least.least_unit.Given as goal

abbrev pub invariant-units : goal.invariant-units
invariant-units l = record {
  line : IsFirstLine (IsLineWhere (λ k u. IsIllUnit l.rule u) unit_line (take l.unit-index l.units)) l.least;
  fine : l.least ≡ None → AreFine l.rule (take l.unit-index l.units);
}
