use Rattle.xs_sheet.proofs.Spaced.{units_on}
use Rattle.xs_sheet.proofs.writer.push_units.Goals as goal

pub units-preserved : goal.units-preserved
units-preserved c = units_on c.args.page.now c.units.page c.push_unit.new.page c.args.units.now c.units.unit-index c.unit-item.result c.units-test.true c.unit-item.is c.units.invariant c.in_ok-push_unit.ensures
