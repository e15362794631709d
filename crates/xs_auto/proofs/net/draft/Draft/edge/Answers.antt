use Rattle.std.proofs.Common.{refl, arith, length-set}
use Rattle.xs_auto.proofs.LayoutLemmas.{drafted_states, edge_kept, edge_pushed, edge_refused, on_err}
use Rattle.xs_auto.proofs.net.draft.Draft.edge.Goals as goal

pub index-known-requires : goal.index-known-requires
index-known-requires c = let same = drafted_states c.self.inside.start c.self.inside.finals.items c.self.inside.classes.items c.self.inside.edges.items c.self.inside.moves.items c.self.inside.calls.items c.args.self.now c.self.view_is in omega (arith, same, c.self.invariant.entries, c.requires.to)

pub returns-in_err-number-clause-err : goal.returns-in_err-number-clause-err
returns-in_err-number-clause-err c = on_err _ (edge_refused c.self.inside.start c.self.inside.finals.items c.self.inside.entered.items c.self.inside.classes.items c.self.inside.edges.items c.self.inside.moves.items c.self.inside.calls.items _ c.args.self.now _ c.self.invariant c.self.view_is c.number_of.ensures.kept refl)

pub index_mut-requires : goal.index_mut-requires
index_mut-requires c = let same = drafted_states c.self.inside.start c.self.inside.finals.items c.self.inside.classes.items c.self.inside.edges.items c.self.inside.moves.items c.self.inside.calls.items c.args.self.now c.self.view_is in omega (arith, same, c.self.invariant.entries, c.requires.to)

pub returns-in_err-push-clause-err : goal.returns-in_err-push-clause-err
returns-in_err-push-clause-err c = on_err _ (edge_refused c.self.inside.start c.self.inside.finals.items c.self.inside.entered.items c.self.inside.classes.items c.self.inside.edges.items c.self.inside.moves.items c.self.inside.calls.items _ c.args.self.now _ c.self.invariant c.self.view_is c.number_of.ensures.kept c.in_err-push.ensures.items)

pub invariant_of-self-2 : goal.invariant_of-self-2
invariant_of-self-2 c = edge_kept c.self.inside.start c.self.inside.finals.items c.self.inside.entered.items c.self.inside.classes.items c.self.inside.edges.items c.self.inside.moves.items c.self.inside.calls.items _ c.args.self.now c.args.a c.args.b c.in_ok-number.number c.args.class.now _ _ c.self.invariant c.self.view_is c.requires.from c.requires.to c.number_of.ensures.kept c.in_ok-number.ensures.number (length-set c.self.inside.entered.items c.args.b c.in_ok-number.number) c.in_ok-push.ensures.items

pub returns-clause-ok : goal.returns-clause-ok
returns-clause-ok c = edge_pushed c.self.inside.start c.self.inside.finals.items c.self.inside.entered.items c.self.inside.classes.items c.self.inside.edges.items c.self.inside.moves.items c.self.inside.calls.items _ c.args.self.now c.args.a c.args.b c.in_ok-number.number c.args.class.now _ c.self.invariant c.self.view_is c.requires.from c.number_of.ensures.kept c.in_ok-number.ensures.number c.in_ok-push.ensures.items
