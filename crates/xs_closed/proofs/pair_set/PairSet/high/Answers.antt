use Rattle.std.proofs.Common.{sym}
use Rattle.xs_closed.proofs.WordLemmas.{rows_length, grid_sized}
use Rattle.xs_closed.proofs.pair_set.PairSet.high.Goals as goal

pub returns-clause-value : goal.returns-clause-value
returns-clause-value c = rw (← c.self.view_is) (sym (rows_length c.self.inside.high c.self.inside.wide c.self.inside.step c.self.inside.words.items))

pub returns-clause-sized : goal.returns-clause-sized
returns-clause-sized c = rw (← c.self.view_is) (rw rows_length (grid_sized c.self.inside.high c.self.inside.wide c.self.inside.step c.self.inside.words.items))
