use Rattle.xs_pair.proofs.Places.{get_at}
use Rattle.xs_pair.proofs.Added.{has_regex}
use Rattle.xs_pair.proofs.CopiedUnits.{copies_next}
use Rattle.xs_pair.proofs.copying.copied_units.Goals as goal

pub copied_unit-requires : goal.copied_unit-requires
copied_unit-requires c = has_regex c.args.units.now c.units.unit-index c.unit-item.result c.requires (get_at c.args.units.now c.units.unit-index c.unit-item.result c.units-test.true c.unit-item.is)

pub units-preserved : goal.units-preserved
units-preserved c = copies_next c.args.units.now c.units.all.items c.push.new.self.items c.units.unit-index c.unit-item.result c.in_ok-unit.unit c.units-test.true c.unit-item.is c.units.invariant c.in_ok-unit.ensures.outline c.in_ok-unit.ensures.regex c.in_ok-push.ensures.items
