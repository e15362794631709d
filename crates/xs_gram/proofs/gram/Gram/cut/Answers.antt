use Rattle.xs_gram.proofs.Cuts.{partners_within, round_cut, whole_cut}
use Rattle.xs_gram.proofs.gram.Gram.cut.Goals as goal

pub round-requires : goal.round-requires
round-requires c = partners_within c.args.self.now c.args.rule c.args.c c.partners_of.result.now c.partners_of.ensures.list c.requires.within

pub returns-in-Some : goal.returns-in-Some
returns-in-Some c = round_cut c.args.self.now c.spread.ensures.proper c.args.rule c.partners_of.result.now c.partners_of.ensures.list c.args.c c.requires.within c.in-Some.left c.in-Some.right c.in-Some.ensures.some

pub returns-in-None : goal.returns-in-None
returns-in-None c = whole_cut c.args.self.now c.spread.ensures.proper c.args.rule c.partners_of.result.now c.partners_of.ensures.list c.args.c c.requires.within (c.round.ensures.none c.in-None.is) c.spread.result.now c.spread.ensures.items
