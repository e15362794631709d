use Rattle.std.proofs.Common.{take}
use Rattle.xs_closed.specs.Search.{IsListed, Adds, OneOf, Turns}
use Rattle.xs_closed.proofs.seeds.turn_ends.Given as goal

abbrev pub invariant-ends : goal.invariant-ends
invariant-ends l = record {
  listed : IsListed l.set l.pairs.items;
  more : Adds (OneOf (take l.at-index l.ends) (Turns l.seat l.front l.start)) l.initial.set l.initial.pairs.items l.set l.pairs.items;
}
