use Rattle.std.proofs.lemmas.Result.{on_ok_weaker}
use Rattle.xs_meet.specs.Closed.{Marked}
use Rattle.xs_closed.specs.Rows.{marked}
use Rattle.xs_closed.proofs.FoundLemmas.{found_inside, all_found}
use Rattle.xs_closed.proofs.least.least_clear.Goals as goal

pub find_pauses-requires : goal.find_pauses-requires
find_pauses-requires c = rw c.deref.ensures.value (found_inside c.in_ok-fronts.ensures)

pub find_middles-requires : goal.find_middles-requires
find_middles-requires c = rw c.deref-2.ensures.value (found_inside c.in_ok-pauses.ensures)

pub find_rests-requires : goal.find_rests-requires
find_rests-requires c = rw c.deref-3.ensures.value (found_inside c.in_ok-middles.ensures)

pub returns : goal.returns
returns c = on_ok_weaker c.find_rests.result (λ rests. all_found (Marked (marked c.args.related.now)) c.args.front.now c.args.rest.now _ _ _ _ c.in_ok-fronts.ensures (rw c.deref.ensures.value at c.in_ok-pauses.ensures) (rw c.deref-2.ensures.value at c.in_ok-middles.ensures) (rw c.deref-3.ensures.value at rests)) c.find_rests.ensures
