use Rattle.std.proofs.Common.{ℕ, ◌≤◌, List, length}
use Rattle.std.specs.List.{All}
use Rattle.xs_meet.specs.Pieces.{Spells}
use Rattle.xs_meet.specs.Sharing.{IsKnownBefore}
use Rattle.xs_meet.proofs.sharing.Shared.spelt.Given as goal

abbrev pub invariant-rows : goal.invariant-rows
invariant-rows l = record {
  within : l.place ≤ length l.self.rows;
  spells : (w : List ℕ) → Spells l.nest l.spelling.items w → Spells l.nest l.initial.spelling.items w;
  known : All (IsKnownBefore l.self.rows l.place) l.spelling.items;
}

abbrev pub decreases-rows : goal.decreases-rows
decreases-rows l = l.place
