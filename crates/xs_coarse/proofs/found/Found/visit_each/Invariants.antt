use Rattle.xs_coarse.specs.Arcs.{HasGiven}
use Rattle.xs_coarse.proofs.Walks.{Walked}
use Rattle.xs_coarse.proofs.found.Found.visit_each.Given as goal

abbrev pub invariant-items : goal.invariant-items
invariant-items g l = Walked (HasGiven (goal.F-post g l.target)) l.items l.initial.self l.item-index l.self
