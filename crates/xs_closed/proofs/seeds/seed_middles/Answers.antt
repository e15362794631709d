use Rattle.xs_meet.specs.Closed.{Marked}
use Rattle.xs_closed.specs.Rows.{marked}
use Rattle.xs_closed.proofs.AddLemmas.{adds_none, adds_more, adds_all}
use Rattle.xs_closed.proofs.SeedLemmas.{Goes, strides_all}
use Rattle.xs_closed.proofs.seeds.seed_middles.Goals as goal

pub pauses-init : goal.pauses-init
pauses-init c = record { listed = c.requires.listed; more = adds_none (Goes (Marked (marked c.args.related.now)) c.args.front.now c.args.rest.now) c.args.set.now c.args.pairs.now.items }

pub pauses-preserved : goal.pauses-preserved
pauses-preserved c = record {
  listed = c.in_ok-stride.ensures.listed;
  more = adds_more (Goes (Marked (marked c.args.related.now)) c.args.front.now c.args.rest.now) c.args.pauses.now c.pauses.at-index _ c.pauses-test.true c.pauses.invariant.more c.in_ok-stride.ensures.ok;
}

pub returns-clause-ok : goal.returns-clause-ok
returns-clause-ok c = strides_all (Marked (marked c.args.related.now)) c.args.front.now c.args.rest.now c.args.pauses.now (adds_all (Goes (Marked (marked c.args.related.now)) c.args.front.now c.args.rest.now) c.args.pauses.now c.pauses.at-index c.pauses-test.false c.pauses.invariant.more)
