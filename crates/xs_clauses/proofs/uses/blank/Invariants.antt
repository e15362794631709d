use Rattle.std.proofs.Common.{◌≡◌, ℕ, [], length, get_or}
use Rattle.xs_clauses.proofs.uses.blank.Given as goal

abbrev pub invariant-rows : goal.invariant-rows
invariant-rows l = record {
  rows : length l.uses.items ≡ l.counter;
  blank : (n : ℕ) → get_or l.uses.items n [] ≡ [];
}
