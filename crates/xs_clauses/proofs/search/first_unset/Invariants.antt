use Rattle.std.proofs.Common.{◌<◌, ◌≤◌, ℕ, get_or}
use Rattle.xs_clauses.specs.Search.{IsSet}
use Rattle.xs_clauses.proofs.search.first_unset.Given as goal

abbrev pub invariant-places : goal.invariant-places
invariant-places l = (i : ℕ) → l.from ≤ i → i < l.place → IsSet l.flags (get_or l.premises i 0)
