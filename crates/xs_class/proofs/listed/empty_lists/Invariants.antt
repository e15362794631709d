use Rattle.std.proofs.Common.{◌≡◌, ℕ, [], length, get_or}
use Rattle.xs_class.proofs.listed.empty_lists.Given as goal

abbrev pub invariant-lists : goal.invariant-lists
invariant-lists g l = record {
  counted : length l.lists.items ≡ l.counter;
  empty : (k : ℕ) → get_or l.lists.items k [] ≡ [];
}
