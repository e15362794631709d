use Rattle.xs_meet.specs.Closed.{Marked}
use Rattle.xs_closed.specs.Rows.{marked}
use Rattle.xs_closed.specs.Search.{IsListed, LeadsBy}
use Rattle.xs_closed.proofs.CloseLemmas.{GoesOn}
use Rattle.xs_closed.proofs.spread.close.Given as goal

abbrev pub invariant-places : goal.invariant-places
invariant-places l = record {
  listed : IsListed l.set l.pairs.items;
  goes : GoesOn (LeadsBy l.moves (Marked (marked l.related)) l.m l.n) l.initial.set l.set l.place l.pairs.items;
}
