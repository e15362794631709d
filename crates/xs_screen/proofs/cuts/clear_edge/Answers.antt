use Rattle.std.proofs.Common.{Bool, List, sym, subst}
use Rattle.xs_screen.specs.Screens.{AreDoubts}
use Rattle.xs_screen.proofs.Seeing.{doubt_cleared, edge_overlaps}
use Rattle.xs_screen.proofs.cuts.clear_edge.Goals as goal

pub returns-then-is_cut_of : goal.returns-then-is_cut_of
returns-then-is_cut_of c =
    let g = c.args.g.now in
    let part = c.args.part.now in
    let nowhere = edge_overlaps c.cuts_are_one.ensures g c.requires.built part c.args.edge (c.is_cut_of.ensures c.if-is_cut_of.true) c.requires.edge in
    subst (λ (ds : List Bool). AreDoubts g part.rule ds) (sym c.clear_doubt.ensures) (doubt_cleared g part.rule c.args.edge c.args.doubts.now.items nowhere c.requires.doubts)
