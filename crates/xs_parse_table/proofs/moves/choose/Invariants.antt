use Rattle.std.proofs.Common.{ℕ, Contains}
use Rattle.std.specs.Prelude.{IsTrue, slice_index_or}
use Rattle.xs_atoms.specs.Alphabet.{class_has}
use Rattle.xs_parse_table.proofs.moves.choose.Given as goal

abbrev pub invariant-may : goal.invariant-may
invariant-may l = (k : ℕ) → Contains l.chosen.items k → Contains l.may k × IsTrue (class_has l.atoms (slice_index_or l.classes k 0) l.atom)
