use Rattle.std.proofs.Common.{◌≡◌, length}
use Rattle.xs_meet.specs.Rounds.{Tries, AreWithin}
use Rattle.xs_meet.proofs.sharing.Shared.try_all.Given as goal

abbrev pub invariant-groups : goal.invariant-groups
invariant-groups l = record {
  cells : l.pairs.cells ≡ l.initial.pairs.cells;
  tried : Tries l.nest (AreWithin l.first (length l.nest)) l.initial.self l.self l.grown;
}
