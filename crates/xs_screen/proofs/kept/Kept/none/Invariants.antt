use Rattle.std.proofs.Common.{ℕ, ◌≡◌, length}
use Rattle.xs_coarse.specs.declared.tail.Tail.{Tail}
use Rattle.xs_coarse_net.specs.declared.cover.Cover.{Cover}
use Rattle.xs_screen.specs.Screens.{AreOf}
use Rattle.xs_screen.proofs.kept.Kept.none.Given as goal

abbrev pub invariant-rules : goal.invariant-rules
invariant-rules l = record {
  tails : length l.tails.items ≡ l.counter;
  covers : length l.covers.items ≡ l.counter;
  no_tail : AreOf (λ (p : ℕ) (x : Tail). ⊥) l.tails.items;
  no_cover : AreOf (λ (p : ℕ) (x : Cover). ⊥) l.covers.items;
}
