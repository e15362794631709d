use Rattle.xs_gram.proofs.Partners.{partner_kept}
use Rattle.xs_gram.proofs.gram.Gram.partner.Goals as goal

pub bounds-partners_of-k : goal.bounds-partners_of-k
bounds-partners_of-k c = (partner_kept c.args.self.now c.args.rule c.args.k c.partners_of.result.now c.partners_of.ensures.proper c.partners_of.ensures.list c.requires.item).0

pub returns-clause-some : goal.returns-clause-some
returns-clause-some c = (partner_kept c.args.self.now c.args.rule c.args.k c.partners_of.result.now c.partners_of.ensures.proper c.partners_of.ensures.list c.requires.item).1

pub returns-clause-none : goal.returns-clause-none
returns-clause-none c = (partner_kept c.args.self.now c.args.rule c.args.k c.partners_of.result.now c.partners_of.ensures.proper c.partners_of.ensures.list c.requires.item).2
