use Rattle.std.proofs.Common.{◌≡◌}
use Rattle.xs_searches.specs.First.{HasNoneInRows}
use Rattle.xs_searches.specs.Searching.{OverlapsAt}
use Rattle.xs_horiz.proofs.search.first_horizontal.Given as goal

abbrev pub invariant-rules : goal.invariant-rules
invariant-rules l = record {
  same : l.searches ≡ l.initial.searches;
  none : HasNoneInRows (OverlapsAt l.initial.searches) l.rule;
}
