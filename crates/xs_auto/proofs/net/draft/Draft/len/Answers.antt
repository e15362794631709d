use Rattle.std.proofs.Common.{arith}
use Rattle.xs_auto.proofs.LayoutLemmas.{drafted_states}
use Rattle.xs_auto.proofs.net.draft.Draft.len.Goals as goal

pub returns : goal.returns
returns c = let same = drafted_states c.self.inside.start c.self.inside.finals.items c.self.inside.classes.items c.self.inside.edges.items c.self.inside.moves.items c.self.inside.calls.items c.args.self.now c.self.view_is in omega (arith, same, c.len.ensures)
