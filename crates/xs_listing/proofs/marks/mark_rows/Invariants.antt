use Rattle.std.proofs.Common.{◌≡◌, ◌≤◌, ℕ, List, length}
use Rattle.xs_gram.specs.Grammar.{Grammar}
use Rattle.xs_forest_laws.specs.Forest.{IsRight}
use Rattle.xs_listing.specs.Marks.{IsReady, IsMarked, AreMarked}
use Rattle.xs_listing.proofs.marks.mark_rows.Given as goal

abbrev pub invariant-rows : goal.invariant-rows
invariant-rows l = record {
  long : length l.marks.items ≡ length l.forest;
  within : l.row ≤ length l.forest;
  root : IsMarked l.marks.items l.root;
  marked : (g : Grammar) (w : List ℕ) → IsRight g w l.forest → IsReady w l.forest l.root → AreMarked w l.forest l.marks.items l.row;
}

abbrev pub decreases-rows : goal.decreases-rows
decreases-rows l = l.row
