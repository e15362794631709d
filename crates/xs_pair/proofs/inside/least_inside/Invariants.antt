use Rattle.std.proofs.Common.{take}
use Rattle.xs_pair.specs.Fences.{IsInside}
use Rattle.xs_pair.specs.Units.{unit_line}
use Rattle.xs_pair.specs.Verdict.{IsFirstLine, IsLineWhere}
use Rattle.xs_pair.proofs.inside.least_inside.Given as goal

abbrev pub invariant-units : goal.invariant-units
invariant-units l = IsFirstLine (IsLineWhere (λ k u. IsInside l.letters u) unit_line (take l.unit-index l.units)) l.least
