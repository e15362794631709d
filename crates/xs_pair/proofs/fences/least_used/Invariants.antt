use Rattle.std.proofs.Common.{◌≡◌, take}
use Rattle.xs_pair.specs.Fences.{fence_letters, IsUsed}
use Rattle.xs_pair.specs.Units.{unit_line}
use Rattle.xs_pair.specs.Verdict.{IsFirstLine, IsLineWhere}
use Rattle.xs_pair.proofs.fences.least_used.Given as goal

abbrev pub invariant-units : goal.invariant-units
invariant-units l = record {
  letters : l.earlier.items ≡ fence_letters (take l.unit-index l.units);
  first : IsFirstLine (IsLineWhere (λ k u. IsUsed (fence_letters (take k l.units)) u) unit_line (take l.unit-index l.units)) l.least;
}
