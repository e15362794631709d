use Rattle.std.proofs.Common.{◌≡◌}
use Rattle.xs_meet.specs.Rounds.{Tries, AreFrom}
use Rattle.xs_meet.proofs.sharing.Shared.try_from.Given as goal

abbrev pub invariant-partners : goal.invariant-partners
invariant-partners l = record {
  cells : l.pairs.cells ≡ l.initial.pairs.cells;
  tried : Tries l.nest (AreFrom l.first l.second) l.initial.self l.self l.grown;
}
