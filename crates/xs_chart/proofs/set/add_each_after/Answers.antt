use Rattle.std.proofs.Common.{arith}
use Rattle.std.proofs.lemmas.Option.{slice_get_within}
use Rattle.xs_chart.proofs.Advancing.{entry_there, advance_one}
use Rattle.xs_chart.proofs.set.add_each_after.Goals as goal

pub bounds-items-waiter : goal.bounds-items-waiter
bounds-items-waiter c = slice_get_within c.args.items.now _ _ (entry_there c.args.next.now c.args.items.now c.args.waits.now c.waiters.waiter-index (omega arith) c.requires.there).0

pub bounds-next-item : goal.bounds-next-item
bounds-next-item c = (entry_there c.args.next.now c.args.items.now c.args.waits.now c.waiters.waiter-index (omega arith) c.requires.there).1

pub waiters-preserved : goal.waiters-preserved
waiters-preserved c = record {
  more = advance_one c.args.next.now c.args.items.now c.args.waits.now c.waiters.waiter-index (omega arith) c.requires.there c.args.set.now.keys c.waiters.set.keys c.add.new.set.keys c.in_ok-add.field-0 c.waiters.invariant.more c.in_ok-add.ensures.added c.in_ok-add.ensures.items;
  different = c.in_ok-add.ensures.different;
}

pub offset_bounds-items-waiter : goal.offset_bounds-items-waiter
offset_bounds-items-waiter c = let h = bounds-items-waiter c in omega (arith, h)
