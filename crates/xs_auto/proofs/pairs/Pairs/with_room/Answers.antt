use Rattle.xs_auto.proofs.MarkLemmas.{three_maps, no_mark}
use Rattle.xs_auto.proofs.pairs.Pairs.with_room.Goals as goal

pub invariant_of-result : goal.invariant_of-result
invariant_of-result c = rw c.in_ok-maps.ensures.items (three_maps c.args.cells _ _ _ c.in_ok-first.ensures c.in_ok-second.ensures c.in_ok-third.ensures)

pub returns-clause-blank : goal.returns-clause-blank
returns-clause-blank c = λ m cell. rw c.in_ok-maps.ensures.items (no_mark c.args.cells _ _ _ c.in_ok-first.ensures c.in_ok-second.ensures c.in_ok-third.ensures m cell)
