use Rattle.std.proofs.Common.{◌≡◌, ℕ, length, get_or, take}
use Rattle.std.specs.List.{Contains}
use Rattle.xs_loose.proofs.weighing.set_each.Given as goal

abbrev pub invariant-nons : goal.invariant-nons
invariant-nons l = record {
  length : length l.weights ≡ length l.initial.weights;
  set : (n : ℕ) → Contains (take l.non-index l.nons) n → get_or l.weights n 0 ≡ l.weight;
  kept : (n : ℕ) → (Contains (take l.non-index l.nons) n → ⊥) → get_or l.weights n 0 ≡ get_or l.initial.weights n 0;
}
