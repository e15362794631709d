use Rattle.xs_pair.proofs.Places.{get_at}
use Rattle.xs_pair.proofs.Added.{has_regex, terms_next}
use Rattle.xs_pair.proofs.parts.regexes.Goals as goal

pub push_regex-requires : goal.push_regex-requires
push_regex-requires c = has_regex c.args.units.now c.units.unit-index c.unit-item.result c.requires (get_at c.args.units.now c.units.unit-index c.unit-item.result c.units-test.true c.unit-item.is)

pub units-preserved : goal.units-preserved
units-preserved c = terms_next c.args.units.now c.units.unit-index c.unit-item.result c.units.regexes.items c.push_regex.new.regexes.items c.units-test.true c.unit-item.is c.units.invariant c.in_ok-push_regex.ensures
