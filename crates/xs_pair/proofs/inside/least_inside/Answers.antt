use Rattle.std.proofs.Common.{ℕ, subst}
use Rattle.std.proofs.lemmas.List.{take_all}
use Rattle.xs_sheet.specs.declared.unit.Unit.{Unit}
use Rattle.xs_pair.specs.Fences.{IsInside}
use Rattle.xs_pair.specs.Units.{unit_line}
use Rattle.xs_pair.specs.Verdict.{IsFirstLine, IsLineWhere}
use Rattle.xs_pair.proofs.Added.{has_regex}
use Rattle.xs_pair.proofs.Places.{get_at}
use Rattle.xs_pair.proofs.Taken.{take_tested}
use Rattle.xs_pair.proofs.inside.least_inside.Goals as goal

pub is_inside-fails-requires : goal.is_inside-fails-requires
is_inside-fails-requires c = has_regex c.args.units.now c.units.unit-index c.unit-item.result c.requires (get_at c.args.units.now c.units.unit-index c.unit-item.result c.units-test.true c.unit-item.is)

pub units-preserved : goal.units-preserved
units-preserved c =
    take_tested (λ (k : ℕ) (u : Unit). IsInside c.args.letters.now u) unit_line c.args.units.now c.units.unit-index c.unit-item.result c.units.least c.with_line-least.result c.unit_line.result c.is_inside-fails.result c.units-test.true c.unit-item.is c.unit_line.ensures c.is_inside-fails.ensures c.with_line-least.ensures c.units.invariant

pub returns : goal.returns
returns c = subst (λ us. IsFirstLine (IsLineWhere (λ (k : ℕ) (u : Unit). IsInside c.args.letters.now u) unit_line us) c.units.least) (take_all c.units.unit-index c.args.units.now c.units-test.false) c.units.invariant
