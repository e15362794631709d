use Rattle.std.proofs.Common.{ℕ, take}
use Rattle.xs_meet.specs.Searches.{ReadsWith}
use Rattle.xs_meet.proofs.trace.symbol_with.Given as goal

abbrev pub invariant-others : goal.invariant-others
invariant-others l = record { none : (x : ℕ) → ReadsWith l.edge (take l.place l.others) l.to x → ⊥ }
