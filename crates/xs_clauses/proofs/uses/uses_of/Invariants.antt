use Rattle.std.proofs.Common.{◌≡◌, length}
use Rattle.xs_clauses.specs.Search.{AreUsesTo}
use Rattle.xs_clauses.proofs.uses.uses_of.Given as goal

abbrev pub invariant-clauses : goal.invariant-clauses
invariant-clauses l = record {
  rows : length l.uses.items ≡ l.count;
  all : AreUsesTo l.clauses l.place l.uses.items;
}
