use Rattle.xs_searches.proofs.Cutting.{front_part, rest_part, front_light, rest_light}
use Rattle.xs_searches.proofs.nets.Site.cut_nets.Goals as goal

pub net-requires-clause-part : goal.net-requires-clause-part
net-requires-clause-part c = front_part c.args.self.now.g.now c.requires.site.built c.args.rule c.args.place c.cut-cut.result.start c.cut-cut.result.end c.requires.rule c.cut-cut.ensures

pub net-requires-clause-light : goal.net-requires-clause-light
net-requires-clause-light c = front_light c.args.self.now.g.now c.requires.site.built c.args.rule c.args.place c.cut-cut.result.start c.cut-cut.result.end c.requires.rule c.cut-cut.ensures c.requires.site.light

pub net-requires-2-clause-part : goal.net-requires-2-clause-part
net-requires-2-clause-part c = rest_part c.args.self.now.g.now c.requires.site.built c.args.rule c.args.place c.cut-cut.result.start c.cut-cut.result.end c.requires.rule c.cut-cut.ensures

pub net-requires-2-clause-light : goal.net-requires-2-clause-light
net-requires-2-clause-light c = rest_light c.args.self.now.g.now c.requires.site.built c.args.rule c.args.place c.cut-cut.result.start c.cut-cut.result.end c.requires.rule c.cut-cut.ensures c.requires.site.light
