use Rattle.std.proofs.Common.{◌≡◌}
use Rattle.xs_searches.specs.First.{HasNoneInRow}
use Rattle.xs_searches.specs.Searching.{OverlapsAt}
use Rattle.xs_horiz.proofs.search.first_cut.Given as goal

abbrev pub invariant-cuts : goal.invariant-cuts
invariant-cuts l = record {
  same : l.searches ≡ l.fn.searches;
  none : HasNoneInRow (OverlapsAt l.fn.searches) l.rule l.cut;
}
