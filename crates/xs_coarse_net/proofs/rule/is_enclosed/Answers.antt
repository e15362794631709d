use Rattle.xs_coarse_net.proofs.Places.{cut_enclosed}
use Rattle.xs_coarse_net.proofs.rule.is_enclosed.Goals as goal

pub returns : goal.returns
returns c = λ e. cut_enclosed c.cuts_are_one.ensures c.args.site.now.g.now c.requires.site.ready.built.proper c.args.rule c.args.place c.cut-cut.result.start c.cut-cut.result.end c.cut-cut.ensures c.if-cut-eq0.false
