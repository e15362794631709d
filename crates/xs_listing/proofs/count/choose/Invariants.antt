use Rattle.std.proofs.Common.{◌≡◌, ◌+◌, ◌<◌, length, drop, take}
use Rattle.xs_forest.specs.Rows.{AreEarlier}
use Rattle.xs_forest_laws.specs.Number.{alts_sum}
use Rattle.xs_listing.proofs.count.choose.Given as goal

abbrev pub invariant-alts : goal.invariant-alts
invariant-alts l = record {
  ahead : l.rest < alts_sum l.cap l.counts (drop l.alt-index l.alts);
  earlier : AreEarlier (drop l.alt-index l.alts) (length l.counts);
  after : l.fn.number ≡ alts_sum l.cap l.counts (take l.alt-index l.alts) + l.rest;
}
