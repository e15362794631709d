use Rattle.std.proofs.Common.{refl}
use Rattle.std.proofs.lemmas.Bool.{true_from_ne_false, false≢true}
use Rattle.xs_meet.proofs.GainLemmas.{area_same, gains_one, gains_known, fits_new}
use Rattle.xs_meet.proofs.layer.Layer.visit.Goals as goal

pub returns-in_ok-push-clause-fits : goal.returns-in_ok-push-clause-fits
returns-in_ok-push-clause-fits c = fits_new c.args.self.now _ c.args.pairs.now c.mark.new.self c.args.step _ c.requires.fits c.requires.first c.requires.second refl c.mark.ensures.marked (record { map = refl; height = refl; width = refl }) c.in_ok-push.ensures.items

pub returns-in_ok-push-clause-ok : goal.returns-in_ok-push-clause-ok
returns-in_ok-push-clause-ok c = record { area = record { map = refl; height = refl; width = refl }; seeds = refl; gains = gains_one c.args.self.now.steps.items _ c.args.step c.in_ok-push.ensures.items }

pub returns-else-mark-clause-ok : goal.returns-else-mark-clause-ok
returns-else-mark-clause-ok c =
    let marked = true_from_ne_false _ (λ e. false≢true (rw c.if-mark.false at (c.mark.ensures.fresh.1 e))) in
    record { area = area_same c.args.self.now; seeds = refl; gains = gains_known c.args.self.now.steps.items c.args.step (c.requires.fits.known c.args.step.first c.args.step.second c.requires.second marked) }
