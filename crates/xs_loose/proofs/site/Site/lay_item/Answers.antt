use Rattle.xs_loose.proofs.Moving.{on_ok, fixed_laid, term_laid, skip_laid}
use Rattle.xs_loose.proofs.site.Site.lay_item.Goals as goal

pub returns-in-Fixed : goal.returns-in-Fixed
returns-in-Fixed c = on_ok c.lay_fixed.result (λ t e. fixed_laid c.args.self.now.g.now c.requires.site.built c.args.self.now.tables.now.weights c.args.item.now c.in-Fixed.word c.as_slice.result.now c.args.spot t c.args.into.now.net c.lay_fixed.new.net c.args.into.now.tasks.items c.in-Fixed.is c.as_slice.ensures c.requires.there c.requires.before c.requires.room (rw e at c.lay_fixed.ensures.before) (rw e at c.lay_fixed.ensures.at) (rw e at c.lay_fixed.ensures.grows))

pub returns-in-Term : goal.returns-in-Term
returns-in-Term c = on_ok c.lay_regular.result (λ t e. term_laid c.args.self.now.g.now c.requires.site.built c.args.self.now.tables.now.weights c.args.item.now c.in-Term.term c.in-Term.slot c.term.result.now c.args.spot t c.args.into.now.net c.lay_regular.new.net c.args.into.now.tasks.items c.in-Term.is c.term.ensures c.requires.there c.requires.before c.requires.room (rw e at c.lay_regular.ensures.before) (rw e at c.lay_regular.ensures.at) (rw e at c.lay_regular.ensures.grows))

pub returns-in-Skip : goal.returns-in-Skip
returns-in-Skip c = on_ok c.lay_regular-in-Skip.result (λ t e. skip_laid c.args.self.now.g.now c.requires.site.built c.args.self.now.tables.now.weights c.args.item.now c.in-Skip.skip c.skip.result.now c.args.spot t c.args.into.now.net c.lay_regular-in-Skip.new.net c.args.into.now.tasks.items c.in-Skip.is c.skip.ensures c.requires.there c.requires.before c.requires.room (rw e at c.lay_regular-in-Skip.ensures.before) (rw e at c.lay_regular-in-Skip.ensures.at) (rw e at c.lay_regular-in-Skip.ensures.grows))
