use Rattle.std.proofs.Common.{ℕ, take}
use Rattle.std.specs.List.{Contains}
use Rattle.xs_clauses.specs.Search.{IsFit, Grows, IsSettled}
use Rattle.xs_clauses.proofs.search.Search.advance_all.Given as goal

abbrev pub invariant-places : goal.invariant-places
invariant-places l = record {
  fits : IsFit l.clauses l.self;
  grows : Grows l.initial.self l.self;
  settled : (k : ℕ) → Contains (take l.place-index l.places) k → IsSettled l.clauses l.self.flags.items l.initial.self.found.items k;
}
