use Rattle.std.proofs.Common.{ap, refl, List}
use Rattle.xs_graph.specs.declared.frame.Frame.{Frame}
use Rattle.xs_graph.specs.States.{State}
use Rattle.xs_graph.proofs.Stacking.{lower_at}
use Rattle.xs_graph.proofs.search.Search.merge.Goals as goal

pub returns-in-Some : goal.returns-in-Some
returns-in-Some c =
    let s = c.args.self.now in
    let with_path : List Frame → State = λ (p : List Frame). record { visits = s.visits.items; waiting = s.waiting.items; path = p; count = s.count } in
    ap with_path (lower_at s.path.items c.in-Some.frame.now c.args.least s.path.len c.min-frame.result s.path.ok.0 (c.in-Some.ensures.variant.0 refl) c.min-frame.ensures c.in-Some.ensures.value)
