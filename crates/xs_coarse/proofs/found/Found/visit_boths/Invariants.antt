use Rattle.std.specs.List.{All}
use Rattle.xs_coarse.specs.Arcs.{Joins}
use Rattle.xs_coarse.proofs.Walks.{Walked}
use Rattle.xs_coarse.proofs.found.Found.visit_boths.Given as goal

abbrev pub invariant-arcs : goal.invariant-arcs
invariant-arcs l = Walked (λ f x. All (Joins l.labels f x) l.others) l.arcs l.initial.self l.arc-index l.self
