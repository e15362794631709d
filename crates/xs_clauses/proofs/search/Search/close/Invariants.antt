use Rattle.std.proofs.Common.{◌≡◌, ◌<◌, ◌≤◌, ℕ, length, take}
use Rattle.xs_clauses.specs.Search.{IsFit, IsSettled}
use Rattle.xs_clauses.proofs.search.Search.close.Given as goal

abbrev pub invariant-places : goal.invariant-places
invariant-places l = record {
  fits : IsFit l.clauses l.self;
  count : length l.self.flags.items ≡ length l.initial.self.flags.items;
  within : l.place ≤ length l.self.found.items;
  settled : (k : ℕ) → k < length l.clauses → IsSettled l.clauses l.self.flags.items (take l.place l.self.found.items) k;
}
