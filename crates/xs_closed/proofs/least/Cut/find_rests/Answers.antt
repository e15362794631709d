use Rattle.xs_meet.specs.Closed.{Leads, Marked}
use Rattle.xs_closed.specs.Rows.{marked}
use Rattle.xs_closed.specs.Least.{IsPastMiddle}
use Rattle.xs_closed.specs.Search.{HasPair}
use Rattle.xs_closed.proofs.FoundLemmas.{found}
use Rattle.xs_closed.proofs.least.Cut.find_rests.Goals as goal

pub returns : goal.returns
returns c = (found (IsPastMiddle c.args.self.now.front.now c.args.self.now.rest.now (HasPair c.args.middles.now)) (Leads (Marked (marked c.args.self.now.related.now)) c.args.self.now.rest.now c.args.self.now.rest.now) c.args.self.now.rest.now c.args.self.now.rest.now c.len.result c.len-2.result c.in_ok-reset.ensures.ok c.len.ensures c.len-2.ensures c.in_ok-seed_ends.ensures.ok c.in_ok-close.ensures.ok c.in_ok-close.ensures.listed).table
