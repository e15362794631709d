use Rattle.std.proofs.Common.{◌∙◌, sym, ap, subst, List, ℕ, map, reverse}
use Rattle.xs_graph.specs.Graphs.{AreComponents}
use Rattle.xs_graph.specs.States.{state_of, number_of}
use Rattle.xs_graph.proofs.Finding.{components_found}
use Rattle.xs_graph.proofs.component.components.Goals as goal

pub returns : goal.returns
returns c =
    let s = c.in_ok-search.search in
    let found = c.in_ok-search.ensures in
    subst (λ (x : List ℕ). AreComponents c.args.graph.now x) (sym (c.in_ok-numbers.ensures ∙ ap (map number_of) c.deref.ensures.value)) (components_found c.args.graph.now (state_of s) found.state (ap reverse found.idle) found.seen)
