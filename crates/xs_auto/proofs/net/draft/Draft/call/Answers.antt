use Rattle.xs_auto.proofs.LayoutLemmas.{call_kept, call_pushed}
use Rattle.xs_auto.proofs.net.draft.Draft.call.Goals as goal

pub invariant_of-self-2 : goal.invariant_of-self-2
invariant_of-self-2 c = call_kept c.self.inside.start c.self.inside.finals.items c.self.inside.entered.items c.self.inside.classes.items c.self.inside.edges.items c.self.inside.moves.items c.self.inside.calls.items c.args.self.now c.args.a (record { group = c.args.group; to = c.args.b }) _ c.self.invariant c.self.view_is c.requires.from c.requires.to c.in_ok-push.ensures.items

pub returns-clause-ok : goal.returns-clause-ok
returns-clause-ok c = call_pushed c.self.inside.start c.self.inside.finals.items c.self.inside.entered.items c.self.inside.classes.items c.self.inside.edges.items c.self.inside.moves.items c.self.inside.calls.items c.args.self.now c.args.a (record { group = c.args.group; to = c.args.b }) _ c.self.invariant c.self.view_is c.requires.from c.in_ok-push.ensures.items
