use Rattle.std.proofs.Common.{◌≡◌, length}
use Rattle.xs_listing.proofs.list.rooms_of.Given as goal

abbrev pub invariant-numbers : goal.invariant-numbers
invariant-numbers l = length l.rooms.items ≡ l.number
