use Rattle.std.proofs.Common.{ℕ, take}
use Rattle.std.specs.Prelude.{Contains, IsTrue, slice_index_or}
use Rattle.xs_earley.specs.Masks.{has_bit, mask_of}
use Rattle.xs_earley.proofs.masks.positions_mask.Given as goal

abbrev pub invariant-positions : goal.invariant-positions
invariant-positions l = (k n : ℕ) → Contains (take l.position-index l.positions) k → IsTrue (has_bit (mask_of l.masks (slice_index_or l.classes k 0)) n) → IsTrue (has_bit l.mask n)
