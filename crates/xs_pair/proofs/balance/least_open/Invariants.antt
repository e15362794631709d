use Rattle.std.proofs.Common.{take}
use Rattle.xs_pair.specs.Fences.{IsOpen}
use Rattle.xs_pair.specs.Units.{unit_line}
use Rattle.xs_pair.specs.Verdict.{IsFirstLine, IsLineWhere}
use Rattle.xs_pair.proofs.balance.least_open.Given as goal

abbrev pub invariant-units : goal.invariant-units
invariant-units l = IsFirstLine (IsLineWhere (λ k u. IsOpen l.pairs u) unit_line (take l.unit-index l.units)) l.least
