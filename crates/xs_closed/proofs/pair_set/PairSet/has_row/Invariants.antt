use Rattle.std.proofs.Common.{◌≡◌, ℕ, ◌-◌, ◌%◌, ◌<◌, true}
use Rattle.xs_closed.specs.Words.{bit_in}
use Rattle.xs_closed.proofs.pair_set.PairSet.has_row.Given as goal

abbrev pub invariant-words : goal.invariant-words
invariant-words l = record {
  whole : l.at % 64 ≡ 0;
  below : (b : ℕ) → b < l.at → bit_in l.other-inside.step l.other-inside.words.items l.a b ≡ true → bit_in l.self-inside.step l.self-inside.words.items l.c b ≡ true;
}

abbrev pub decreases-words : goal.decreases-words
decreases-words l = l.wide - l.at
