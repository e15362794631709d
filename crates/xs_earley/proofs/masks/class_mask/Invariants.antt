use Rattle.std.proofs.Common.{ℕ, ◌<◌}
use Rattle.std.specs.Prelude.{IsTrue}
use Rattle.xs_atoms.specs.Alphabet.{class_has}
use Rattle.xs_earley.specs.Masks.{has_bit}
use Rattle.xs_earley.proofs.masks.class_mask.Given as goal

abbrev pub invariant-atoms : goal.invariant-atoms
invariant-atoms l = (n : ℕ) → n < l.atom → IsTrue (class_has l.atoms l.class n) → IsTrue (has_bit l.mask n)
