use Rattle.std.proofs.Common.{◌≡◌}
use Rattle.xs_searches.specs.First.{HasNoneInRow}
use Rattle.xs_vert.specs.Partners.{ArePartners}
use Rattle.xs_vert.proofs.search.first_partner.Given as goal

abbrev pub invariant-partners : goal.invariant-partners
invariant-partners l = record {
  same : l.searches ≡ l.initial.searches;
  none : HasNoneInRow (ArePartners l.initial.searches) l.rule l.rule2;
}
