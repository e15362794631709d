use Rattle.xs_coarse.proofs.LayerLemmas.{StepsFrom}
use Rattle.xs_coarse.proofs.Walks.{Walked}
use Rattle.xs_coarse.proofs.found.Found.seed_steps.Given as goal

abbrev pub invariant-pairs : goal.invariant-pairs
invariant-pairs l = Walked (StepsFrom l.labels l.net) l.pairs l.initial.self l.pair-index l.self
