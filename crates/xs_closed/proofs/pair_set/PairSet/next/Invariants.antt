use Rattle.std.proofs.Common.{◌≡◌, ℕ, ◌-◌, ◌<◌, ◌≤◌, false}
use Rattle.xs_closed.specs.Words.{bit_in}
use Rattle.xs_closed.proofs.pair_set.PairSet.next.Given as goal

abbrev pub invariant-words : goal.invariant-words
invariant-words l = record {
  order : l.from ≤ l.at;
  none : (b : ℕ) → l.from ≤ b → b < l.at → bit_in l.self-inside.step l.self-inside.words.items l.a b ≡ false;
}

abbrev pub decreases-words : goal.decreases-words
decreases-words l = l.wide - l.at
