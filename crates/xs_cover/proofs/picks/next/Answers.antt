use Rattle.std.specs.BinaryHeap.{heap_items}
use Rattle.xs_cover.proofs.Holding.{next_of}
use Rattle.xs_cover.proofs.picks.next.Goals as goal

pub returns-clause-some : goal.returns-clause-some
returns-clause-some c = next_of c.pop.result (heap_items c.args.ready.now) (heap_items c.pop.new.self) c.requires c.pop.ensures.permutation c.pop.ensures.heap_order c.pop.ensures.below_top
