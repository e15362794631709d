use Rattle.std.proofs.Common.{refl}
use Rattle.xs_talk.proofs.Counting.{counted_on}
use Rattle.xs_talk.proofs.counts.summary.Goals as goal

pub returns : goal.returns
returns c =
    counted_on _ _ _ _ _ _ c.in_ok-push_count-4.ensures
    (counted_on _ _ _ _ _ _ c.in_ok-push_count-3.ensures
    (counted_on _ _ _ _ _ _ c.in_ok-push_count-2.ensures
    (counted_on _ _ _ _ _ _ c.in_ok-push_count.ensures c.in_ok-line.ensures c.from.ensures)
    refl)
    refl)
    refl
