use Rattle.std.proofs.Common.{◌≡◌, ◌+◌, length, min, drop}
use Rattle.xs_forest.specs.Rows.{AreEarlier}
use Rattle.xs_forest_laws.specs.Number.{alts_sum}
use Rattle.xs_listing.proofs.count.all_count.Given as goal

abbrev pub invariant-alts : goal.invariant-alts
invariant-alts l = record {
  sum : min l.cap (l.total + alts_sum l.cap l.counts (drop l.alt-index l.alts)) ≡ min l.cap (alts_sum l.cap l.counts l.alts);
  earlier : AreEarlier (drop l.alt-index l.alts) (length l.counts);
  within : l.total ≡ min l.cap l.total;
}
