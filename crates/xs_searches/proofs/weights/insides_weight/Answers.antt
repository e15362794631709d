use Rattle.std.proofs.Common.{ap, length, arith}
use Rattle.xs_searches.proofs.Insides.{greater_is, none_counted, greatest_more, insides_are}
use Rattle.xs_searches.proofs.weights.insides_weight.Goals as goal

pub places-init : goal.places-init
places-init c = none_counted c.args.g.now c.args.rule

pub places-preserved : goal.places-preserved
places-preserved c = greatest_more c.args.g.now c.args.rule c.places.place c.places.greatest c.inside_count-count.result c.max-greatest.result c.places.invariant c.inside_count-count.ensures (greater_is c.places.greatest c.inside_count-count.result c.max-greatest.result c.max-greatest.ensures)

pub returns : goal.returns
returns c = insides_are c.args.g.now c.requires.built c.args.rule c.places.place c.places.greatest (omega (arith, ap length c.spread.ensures.items, c.places-test.false, c.places.auto.place-end)) c.places.invariant
