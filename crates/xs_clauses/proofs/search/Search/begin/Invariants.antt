use Rattle.std.proofs.Common.{◌<◌, ℕ}
use Rattle.xs_clauses.specs.Search.{IsFit, Grows, IsSettled}
use Rattle.xs_clauses.proofs.search.Search.begin.Given as goal

abbrev pub invariant-clauses : goal.invariant-clauses
invariant-clauses l = record {
  fits : IsFit l.clauses l.self;
  grows : Grows l.initial.self l.self;
  settled : (k : ℕ) → k < l.place → IsSettled l.clauses l.self.flags.items l.initial.self.found.items k;
}
