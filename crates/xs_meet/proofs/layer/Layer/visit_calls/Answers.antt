use Rattle.std.proofs.Common.{◌∙◌}
use Rattle.xs_meet.specs.Searches.{Among, Joins}
use Rattle.xs_meet.specs.Sharing.{AreKnown}
use Rattle.xs_meet.proofs.GainLemmas.{extends_more, extends_all}
use Rattle.xs_meet.proofs.layer.Layer.visit_calls.Goals as goal

pub calls-preserved : goal.calls-preserved
calls-preserved c = record {
  cells = c.visit_partners.ensures.cells ∙ c.calls.invariant.cells;
  fits = c.in_ok-visit_partners.ensures.fits;
  more = extends_more (λ h. Among c.args.others.now (λ k. Joins (AreKnown c.args.shared.now) h k c.args.from)) c.args.calls.now c.calls.call-index _ c.calls-test.true c.calls.invariant.more c.in_ok-visit_partners.ensures.ok;
}

pub returns-clause-ok : goal.returns-clause-ok
returns-clause-ok c = extends_all (λ h. Among c.args.others.now (λ k. Joins (AreKnown c.args.shared.now) h k c.args.from)) c.args.calls.now c.calls.call-index c.calls-test.false c.calls.invariant.more
