use Rattle.xs_meet.specs.Sharing.{AreKnown}
use Rattle.xs_meet.proofs.SpreadLemmas.{strode_on}
use Rattle.xs_meet.proofs.layer.Layer.stride.Goals as goal

pub returns-clause-ok : goal.returns-clause-ok
returns-clause-ok c = strode_on (AreKnown c.args.shared.now) c.args.first.now c.args.second.now c.args.at.first c.args.at.second c.args.from _ _ _ _ c.edges-edges.ensures.value c.edges-others.ensures.value c.calls.ensures.value c.calls-2.ensures.value c.in_ok-visit_boths.ensures.ok c.in_ok-visit_calls.ensures.ok
