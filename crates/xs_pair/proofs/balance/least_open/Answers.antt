use Rattle.std.proofs.Common.{◌≡◌, ℕ, arith, length, subst}
use Rattle.std.proofs.lemmas.Bool.Decides.{nat_tests}
use Rattle.std.proofs.lemmas.List.{take_all}
use Rattle.xs_sheet.specs.declared.unit.Unit.{Unit}
use Rattle.xs_pair.specs.Fences.{IsOpen}
use Rattle.xs_pair.specs.Units.{unit_line}
use Rattle.xs_pair.specs.Verdict.{IsFirstLine, IsLineWhere}
use Rattle.xs_pair.proofs.Balancing.{none_open}
use Rattle.xs_pair.proofs.Taken.{take_tested}
use Rattle.xs_pair.proofs.balance.least_open.Goals as goal

pub returns-then-is_empty : goal.returns-then-is_empty
returns-then-is_empty c = λ line at.
    let none : length c.args.pairs.now ≡ 0 = grind (arith, nat_tests, c.is_empty.ensures, c.if-is_empty.true) in
    none_open c.args.pairs.now at.1 none at.3

pub units-preserved : goal.units-preserved
units-preserved c =
    take_tested (λ (k : ℕ) (u : Unit). IsOpen c.args.pairs.now u) unit_line c.args.units.now c.units.unit-index c.unit-item.result c.units.least c.with_line-least.result c.unit_line.result c.in_ok-fails.fails c.units-test.true c.unit-item.is c.unit_line.ensures c.in_ok-fails.ensures c.with_line-least.ensures c.units.invariant

pub returns : goal.returns
returns c = subst (λ us. IsFirstLine (IsLineWhere (λ (k : ℕ) (u : Unit). IsOpen c.args.pairs.now u) unit_line us) c.units.least) (take_all c.units.unit-index c.args.units.now c.units-test.false) c.units.invariant
