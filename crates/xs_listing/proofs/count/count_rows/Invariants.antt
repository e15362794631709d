use Rattle.std.proofs.Common.{◌≡◌, ℕ, List, length}
use Rattle.xs_gram.specs.Grammar.{Grammar}
use Rattle.xs_forest_laws.specs.Forest.{IsRight}
use Rattle.xs_forest_laws.specs.Number.{AreCounts}
use Rattle.xs_listing.proofs.count.count_rows.Given as goal

abbrev pub invariant-rows : goal.invariant-rows
invariant-rows l = record {
  long : length l.counts.items ≡ l.row;
  counts : (g : Grammar) (w : List ℕ) → IsRight g w l.forest → AreCounts l.forest l.cap l.counts.items;
}
