use Rattle.std.proofs.Common.{◌≡◌, ◌<◌, ◌≤◌, ℕ, length}
use Rattle.xs_cover.specs.Tables.{at}
use Rattle.xs_cover.specs.Shortest.{HasSymbol, IsOnTheWay}
use Rattle.xs_cover.proofs.words.ends_of.Given as goal

abbrev pub invariant-ends : goal.invariant-ends
invariant-ends l = record {
  counted : length l.rests.items ≡ length l.automaton.classes;
  low : (k : ℕ) → at l.rests.items k ≤ 1000;
  symbols : (k : ℕ) → at l.rests.items k < 1000 → k < length l.automaton.classes → HasSymbol l.automaton k;
  ends : (i : ℕ) → i < l.position-index → HasSymbol l.automaton (at l.position-items i) → at l.rests.items (at l.position-items i) ≡ 0;
  onward : (k : ℕ) → k < length l.automaton.classes → at l.rests.items k < 1000 → IsOnTheWay l.automaton l.rests.items k;
}
