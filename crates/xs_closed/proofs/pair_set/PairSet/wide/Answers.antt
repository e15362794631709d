use Rattle.xs_closed.proofs.WordLemmas.{rows_length, grid_sized}
use Rattle.xs_closed.proofs.pair_set.PairSet.wide.Goals as goal

pub returns-clause-sized : goal.returns-clause-sized
returns-clause-sized c = rw (← c.self.view_is) (rw rows_length (grid_sized c.self.inside.high c.self.inside.wide c.self.inside.step c.self.inside.words.items))
