use Rattle.std.proofs.Common.{arith}
use Rattle.xs_auto.proofs.LayoutLemmas.{drafted_states, final_set}
use Rattle.xs_auto.proofs.net.draft.Draft.set_final.Goals as goal

pub index_mut-requires : goal.index_mut-requires
index_mut-requires c = let same = drafted_states c.self.inside.start c.self.inside.finals.items c.self.inside.classes.items c.self.inside.edges.items c.self.inside.moves.items c.self.inside.calls.items c.args.self.now c.self.view_is in omega (arith, same, c.requires)

pub returns-clause-ok : goal.returns-clause-ok
returns-clause-ok c =
    let same = drafted_states c.self.inside.start c.self.inside.finals.items c.self.inside.classes.items c.self.inside.edges.items c.self.inside.moves.items c.self.inside.calls.items c.args.self.now c.self.view_is in
    rw (← c.self.view_is) (final_set c.self.inside.start c.self.inside.finals.items c.self.inside.entered.items c.self.inside.classes.items c.self.inside.edges.items c.self.inside.moves.items c.self.inside.calls.items c.args.a c.self.invariant (omega (arith, same, c.requires)))
