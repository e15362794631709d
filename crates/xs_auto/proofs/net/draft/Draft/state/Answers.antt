use Rattle.std.proofs.Common.{arith}
use Rattle.xs_auto.proofs.LayoutLemmas.{drafted_states, state_kept, state_pushed}
use Rattle.xs_auto.proofs.net.draft.Draft.state.Goals as goal

pub invariant_of-self-2 : goal.invariant_of-self-2
invariant_of-self-2 c = state_kept c.self.inside.start c.self.inside.finals.items c.self.inside.entered.items c.self.inside.classes.items c.self.inside.edges.items c.self.inside.moves.items c.self.inside.calls.items c.args.self.now _ _ _ c.self.invariant c.self.view_is c.requires c.in_ok-push.ensures.items c.reserve.ensures.items c.push_reserved.ensures.items

pub returns-clause-number : goal.returns-clause-number
returns-clause-number c = let same = drafted_states c.self.inside.start c.self.inside.finals.items c.self.inside.classes.items c.self.inside.edges.items c.self.inside.moves.items c.self.inside.calls.items c.args.self.now c.self.view_is in omega (arith, same, c.len-number.ensures)

pub returns-clause-ok : goal.returns-clause-ok
returns-clause-ok c = state_pushed c.self.inside.start c.self.inside.finals.items c.self.inside.entered.items c.self.inside.classes.items c.self.inside.edges.items c.self.inside.moves.items c.self.inside.calls.items c.args.self.now _ c.self.invariant c.self.view_is c.in_ok-push.ensures.items
