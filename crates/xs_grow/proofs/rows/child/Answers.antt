use Rattle.std.proofs.Common.{None}
use Rattle.xs_grow.specs.Making.{IsRowOf}
use Rattle.xs_grow.proofs.Growing.{misses_one}
use Rattle.xs_grow.proofs.rows.child.Goals as goal

pub returns-in_ok-push-in-None : goal.returns-in_ok-push-in-None
returns-in_ok-push-in-None c = misses_one c.args.source.now.g.now c.args.source.now.doc.now c.args.forest.now (IsRowOf c.args.forest.now c.args.label None) c.args.label c.in-Some.key c.args.missing.now.items c.push.new.self.items c.in-Some.is c.requires c.in-None.ensures.found c.in_ok-push-in-None.ensures.items
