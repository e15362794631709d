use Rattle.xs_pair.proofs.Places.{get_at}
use Rattle.xs_pair.proofs.Added.{has_regex, skips_next}
use Rattle.xs_pair.proofs.parts.skip_parts.Goals as goal

pub push_skip-requires : goal.push_skip-requires
push_skip-requires c = has_regex c.args.units.now c.units.unit-index c.unit-item.result c.requires (get_at c.args.units.now c.units.unit-index c.unit-item.result c.units-test.true c.unit-item.is)

pub units-preserved : goal.units-preserved
units-preserved c = skips_next c.args.units.now c.units.unit-index c.unit-item.result c.units.parts.items c.push_skip.new.parts.items c.units-test.true c.unit-item.is c.units.invariant c.in_ok-push_skip.ensures
