use Rattle.std.proofs.Common.{◌≡◌, refl, ◌∙◌}
use Rattle.xs_meet.specs.Searches.{step}
use Rattle.xs_meet.proofs.GainLemmas.{extends_none, extends_more, extends_all}
use Rattle.xs_meet.proofs.layer.Layer.visit_firsts.Goals as goal

pub firsts-init : goal.firsts-init
firsts-init c = record { cells = refl; fits = c.requires.fits; more = extends_none (λ a s. s ≡ step a c.args.second c.args.from) c.args.self.now }

pub firsts-preserved : goal.firsts-preserved
firsts-preserved c = record {
  cells = c.visit.ensures.cells ∙ c.firsts.invariant.cells;
  fits = c.in_ok-visit.ensures.fits;
  more = extends_more (λ a s. s ≡ step a c.args.second c.args.from) c.args.firsts.now c.firsts.first-index 0 c.firsts-test.true c.firsts.invariant.more c.in_ok-visit.ensures.ok;
}

pub returns-clause-ok : goal.returns-clause-ok
returns-clause-ok c = extends_all (λ a s. s ≡ step a c.args.second c.args.from) c.args.firsts.now c.firsts.first-index c.firsts-test.false c.firsts.invariant.more
