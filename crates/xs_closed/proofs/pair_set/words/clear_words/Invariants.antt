use Rattle.std.proofs.Common.{◌≡◌, ℕ, ◌<◌, ◌≤◌, length, get_or}
use Rattle.xs_closed.proofs.pair_set.words.clear_words.Given as goal

abbrev pub invariant-places : goal.invariant-places
invariant-places l = record {
  length : length l.words.items ≡ length l.initial.words.items;
  zeros : (k : ℕ) → k < l.place → get_or l.words.items k 0 ≡ 0;
  unused : (k : ℕ) → l.used ≤ k → get_or l.words.items k 0 ≡ 0;
}
