use Rattle.xs_meet.specs.Closed.{Leads, Marked}
use Rattle.xs_closed.specs.Rows.{marked}
use Rattle.xs_closed.specs.Least.{AreStarts}
use Rattle.xs_closed.proofs.FoundLemmas.{found}
use Rattle.xs_closed.proofs.least.find_meeting.Goals as goal

pub returns : goal.returns
returns c = found (AreStarts c.args.m.now c.args.n.now) (Leads (Marked (marked c.args.related.now)) c.args.m.now c.args.n.now) c.args.m.now c.args.n.now c.len.result c.len-2.result c.in_ok-reset.ensures.ok c.len.ensures c.len-2.ensures c.in_ok-seed_starts.ensures.ok c.in_ok-close.ensures.ok c.in_ok-close.ensures.listed
