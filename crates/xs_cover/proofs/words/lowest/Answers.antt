use Rattle.std.proofs.Common.{length, arith}
use Rattle.xs_cover.proofs.Ways.{below_at}
use Rattle.xs_cover.proofs.words.lowest.Goals as goal

pub bounds-rests-position : goal.bounds-rests-position
bounds-rests-position c = below_at c.args.positions.now (length c.args.rests.now) c.positions.position-index c.requires (omega arith)

pub bounds-rests-least : goal.bounds-rests-least
bounds-rests-least c = c.requires c.positions.least c.positions.invariant.among
