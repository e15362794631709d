use Rattle.std.proofs.Common.{take}
use Rattle.xs_meet.specs.Closed.{Marked}
use Rattle.xs_closed.specs.Rows.{marked}
use Rattle.xs_closed.specs.Search.{IsListed, Adds, OneOf}
use Rattle.xs_closed.proofs.SeedLemmas.{Goes}
use Rattle.xs_closed.proofs.seeds.seed_middles.Given as goal

abbrev pub invariant-pauses : goal.invariant-pauses
invariant-pauses l = record {
  listed : IsListed l.set l.pairs.items;
  more : Adds (OneOf (take l.at-index l.pauses) (Goes (Marked (marked l.related)) l.front l.rest)) l.initial.set l.initial.pairs.items l.set l.pairs.items;
}
