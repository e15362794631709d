use Rattle.std.proofs.lemmas.List.{take_all}
use Rattle.xs_loose.proofs.Listing.{bound_more}
use Rattle.xs_loose.proofs.components.bound.Goals as goal

pub keys-preserved : goal.keys-preserved
keys-preserved c = bound_more c.args.keys.now c.keys.key-index c.keys.bound c.above-bound.result c.keys-test.true c.above-bound.ensures.bound c.above-bound.ensures.key c.keys.invariant

pub returns : goal.returns
returns c = rw (take_all c.keys.key-index c.args.keys.now c.keys-test.false) at c.keys.invariant
