use Rattle.std.proofs.Common.{◌∙◌}
use Rattle.xs_order.proofs.Edges.{is_graph}
use Rattle.xs_order.proofs.Leads.{leads_are_edges, leads_in_range, first_loops, loops_cyclic, are_ranks}
use Rattle.xs_order.proofs.unit_ranks.unit_order.Goals as goal

pub components-requires-clause-targets : goal.components-requires-clause-targets
components-requires-clause-targets c =
    let g = c.args.g.now in
    let targets = c.in_ok-targets.targets.items in
    is_graph g targets c.in_ok-graph.graph (leads_in_range g c.in_ok-nulls.nulls targets c.requires.range c.in_ok-targets.ensures) (rw c.deref.ensures.value at c.in_ok-graph.ensures.graph)

pub first_cyclic-requires-clause-targets : goal.first_cyclic-requires-clause-targets
first_cyclic-requires-clause-targets c =
    let g = c.args.g.now in
    let targets = c.in_ok-targets.targets.items in
    is_graph g targets c.in_ok-graph.graph (leads_in_range g c.in_ok-nulls.nulls targets c.requires.range c.in_ok-targets.ensures) (rw c.deref.ensures.value at c.in_ok-graph.ensures.graph)

pub returns-in-Some-clause-fault : goal.returns-in-Some-clause-fault
returns-in-Some-clause-fault c =
    let g = c.args.g.now in
    let graph = rw c.deref.ensures.value at c.in_ok-graph.ensures.graph in
    first_loops g c.in_ok-graph.graph (leads_are_edges g c.in_ok-nulls.nulls c.in_ok-targets.targets.items c.in_ok-graph.graph c.requires c.in_ok-nulls.ensures c.in_ok-targets.ensures graph) c.in-Some.non c.in-Some.ensures.some

pub returns-clause-ranks : goal.returns-clause-ranks
returns-clause-ranks c =
    let g = c.args.g.now in
    let graph = rw c.deref.ensures.value at c.in_ok-graph.ensures.graph in
    are_ranks g c.in_ok-graph.graph (leads_are_edges g c.in_ok-nulls.nulls c.in_ok-targets.targets.items c.in_ok-graph.graph c.requires c.in_ok-nulls.ensures c.in_ok-targets.ensures graph) c.in_ok-ranks.ranks (c.in_ok-ranks.ensures.counted ∙ graph.counted) c.in-None.ensures.falls

pub returns-clause-straight : goal.returns-clause-straight
returns-clause-straight c =
    let g = c.args.g.now in
    let graph = rw c.deref.ensures.value at c.in_ok-graph.ensures.graph in
    λ n loops. c.in-None.ensures.none n (loops_cyclic g c.in_ok-graph.graph (leads_are_edges g c.in_ok-nulls.nulls c.in_ok-targets.targets.items c.in_ok-graph.graph c.requires c.in_ok-nulls.ensures c.in_ok-targets.ensures graph) n loops)
