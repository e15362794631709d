use Rattle.std.proofs.Common.{ℕ, ◌<◌, get_or}
use Rattle.xs_class.specs.Classes.{Has}
use Rattle.xs_coarse.proofs.known.is_unfenced.Given as goal

abbrev pub invariant-fences : goal.invariant-fences
invariant-fences l = (k : ℕ) (d : ℕ × ℕ) → k < l.fence-index → (Has l.class (get_or l.fences k d).0 → ⊥) × (Has l.class (get_or l.fences k d).1 → ⊥)
