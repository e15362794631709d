-- Of each state a mask of 64 bits, with the bits of the atoms of the symbols by which it may go on.
use Rattle.std.specs.Prelude.{◌≡◌, ℕ, ◌<◌, ◌-◌, ◌^◌, ◌%◌, Bool, false, nat_eq, List, [], length, slice_index_or, IsTrue}
use Rattle.std.specs.Int.{bit_at}
use Rattle.xs_gram.specs.Grammar.{Grammar}
use Rattle.xs_atoms.specs.declared.atoms.Atoms.{Atoms}
use Rattle.xs_atoms.specs.Alphabet.{count_of, class_has}
use Rattle.xs_earley.specs.declared.facts.Facts.{Facts}
use Rattle.xs_earley.specs.Facts.{IsAtom}
use Rattle.xs_earley.specs.Arriving.{item_due, item_begun}

-- the mask has the bit of the atom: that of its number modulo 64
abbrev pub has_bit : ℕ → ℕ → Bool
has_bit mask atom = nat_eq (bit_at mask (atom % 64)) 1

-- the mask of a class, all bits where there is none
abbrev pub mask_of : List ℕ → ℕ → ℕ
mask_of masks class = slice_index_or masks class (2 ^ 64 - 1)

-- each class has in its mask the bits of its atoms
abbrev pub AreClassMasks : Atoms → List ℕ → Type 0
AreClassMasks atoms masks = (class atom : ℕ) → atom < count_of atoms → IsTrue (class_has atoms class atom) → IsTrue (has_bit (mask_of masks class) atom)

-- by a symbol whose atom has no bit in the mask, an item of the state leads to nothing and begins no word
abbrev pub IsMask : Grammar → Facts → ℕ → ℕ → Type 0
IsMask g f state mask = (s atom origin : ℕ) → IsAtom f s atom → has_bit mask atom ≡ false → (item_due g f s (record { state = state; origin = origin }) ≡ []) × (item_begun f s (record { state = state; origin = origin }) ≡ [])

-- a mask for each of that many first states
pub record AreMasks (g : Grammar) (f : Facts) (count : ℕ) (masks : List ℕ) : Type 0 where
  pub counted : length masks ≡ count
  pub each : (state : ℕ) → state < count → IsMask g f state (slice_index_or masks state 0)
