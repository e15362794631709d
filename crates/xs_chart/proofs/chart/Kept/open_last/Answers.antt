use Rattle.std.proofs.Common.{◌-◌, ◌∙◌, arith}
use Rattle.xs_chart.proofs.Sets.{kept_reopened, seen_reopened}
use Rattle.xs_chart.proofs.chart.Kept.open_last.Goals as goal

pub returns-in_err-refill-clause-kept : goal.returns-in_err-refill-clause-kept
returns-in_err-refill-clause-kept c =
    let k = c.requires.kept in
    record { counted = k.counted; paired = k.paired; different = k.different; last_different = c.in_err-refill.ensures.different; grouped = k.grouped }

pub returns-clause-kept : goal.returns-clause-kept
returns-clause-kept c =
    let items = c.args.self.now.items in
    let waits = c.args.self.now.waits in
    let set = c.len-set.result - 1 in
    let some = rw c.requires.closed at c.requires.some in
    rw (c.truncate.ensures, c.truncate-2.ensures) (kept_reopened set items c.args.self.now.last.keys c.refill.new.set.keys waits (omega (arith, some, c.len-set.ensures)) (rw c.requires.closed at c.requires.kept) c.in_ok-refill.ensures.different)

pub returns-clause-same : goal.returns-clause-same
returns-clause-same c =
    let items = c.args.self.now.items in
    let waits = c.args.self.now.waits in
    let set = c.len-set.result - 1 in
    let some = rw c.requires.closed at c.requires.some in
    let row = c.in_ok-extend_from_slice.ensures.items in
    rw (c.truncate.ensures, c.truncate-2.ensures, c.requires.closed) (seen_reopened set items c.args.self.now.last.keys c.refill.new.set.keys waits c.extend_from_slice.new.self.items (omega (arith, some, c.len-set.ensures)) (rw c.requires.closed at c.requires.kept) (c.in_ok-refill.ensures.items ∙ c.list.ensures) (row ∙ rw c.clear.ensures.items c.list-2.ensures))
