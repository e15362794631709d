use Rattle.std.proofs.Common.{◌≡◌, ℕ, ◌<◌, get_or}
use Rattle.xs_auto.specs.Bits.{HoldsBits}
use Rattle.xs_auto.proofs.bits.BitSet.clear.Given as goal

abbrev pub invariant-places : goal.invariant-places
invariant-places l = record {
  bound : l.self-inside.bound ≡ l.initial.self-inside.bound;
  used : l.self-inside.used ≡ l.place-end;
  holds : HoldsBits l.self-inside.bound l.self-inside.used l.self-inside.words.items;
  zeros : (k : ℕ) → k < l.place → get_or l.self-inside.words.items k 0 ≡ 0;
}
