use Rattle.xs_order.proofs.Edges.{is_graph}
use Rattle.xs_order.proofs.Outer.{uses_are_edges, uses_in_range, are_components}
use Rattle.xs_order.proofs.component.components.Goals as goal

pub components-requires-clause-targets : goal.components-requires-clause-targets
components-requires-clause-targets c =
    let g = c.args.g.now in
    let targets = c.in_ok-targets.targets.items in
    is_graph g targets c.in_ok-graph.graph (uses_in_range g targets c.requires.range c.in_ok-targets.ensures) (rw c.deref.ensures.value at c.in_ok-graph.ensures.graph)

pub returns : goal.returns
returns c =
    let g = c.args.g.now in
    let targets = c.in_ok-targets.targets.items in
    let graph = rw c.deref.ensures.value at c.in_ok-graph.ensures.graph in
    are_components g c.in_ok-graph.graph (uses_are_edges g targets c.in_ok-graph.graph c.requires.proper.once c.in_ok-targets.ensures graph) c.in_ok-comps.comps graph.counted c.in_ok-comps.ensures
