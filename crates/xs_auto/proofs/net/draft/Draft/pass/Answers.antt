use Rattle.xs_auto.proofs.LayoutLemmas.{move_kept, move_pushed}
use Rattle.xs_auto.proofs.net.draft.Draft.pass.Goals as goal

pub invariant_of-self-2 : goal.invariant_of-self-2
invariant_of-self-2 c = move_kept c.self.inside.start c.self.inside.finals.items c.self.inside.entered.items c.self.inside.classes.items c.self.inside.edges.items c.self.inside.moves.items c.self.inside.calls.items c.args.self.now c.args.a c.args.b _ c.self.invariant c.self.view_is c.requires.from c.requires.to c.in_ok-push.ensures.items

pub returns-clause-ok : goal.returns-clause-ok
returns-clause-ok c = move_pushed c.self.inside.start c.self.inside.finals.items c.self.inside.entered.items c.self.inside.classes.items c.self.inside.edges.items c.self.inside.moves.items c.self.inside.calls.items c.args.self.now c.args.a c.args.b _ c.self.invariant c.self.view_is c.requires.from c.in_ok-push.ensures.items
