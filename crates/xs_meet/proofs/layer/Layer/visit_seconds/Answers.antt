use Rattle.std.proofs.Common.{◌≡◌, refl, ◌∙◌}
use Rattle.xs_meet.specs.Searches.{step}
use Rattle.xs_meet.proofs.GainLemmas.{extends_none, extends_more, extends_all}
use Rattle.xs_meet.proofs.layer.Layer.visit_seconds.Goals as goal

pub seconds-init : goal.seconds-init
seconds-init c = record { cells = refl; fits = c.requires.fits; more = extends_none (λ b s. s ≡ step c.args.first b c.args.from) c.args.self.now }

pub seconds-preserved : goal.seconds-preserved
seconds-preserved c = record {
  cells = c.visit.ensures.cells ∙ c.seconds.invariant.cells;
  fits = c.in_ok-visit.ensures.fits;
  more = extends_more (λ b s. s ≡ step c.args.first b c.args.from) c.args.seconds.now c.seconds.second-index 0 c.seconds-test.true c.seconds.invariant.more c.in_ok-visit.ensures.ok;
}

pub returns-clause-ok : goal.returns-clause-ok
returns-clause-ok c = extends_all (λ b s. s ≡ step c.args.first b c.args.from) c.args.seconds.now c.seconds.second-index c.seconds-test.false c.seconds.invariant.more
