use Rattle.std.proofs.Common.{◌≡◌}
use Rattle.xs_searches.specs.First.{HasNoneInRows}
use Rattle.xs_vert.specs.Partners.{ArePartners}
use Rattle.xs_vert.proofs.search.first_vertical.Given as goal

abbrev pub invariant-rules : goal.invariant-rules
invariant-rules l = record {
  same : l.searches ≡ l.initial.searches;
  none : HasNoneInRows (ArePartners l.initial.searches) l.rule;
}
