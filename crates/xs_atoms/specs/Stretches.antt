-- Stretches of symbols that have one atom, and the rows of atoms.
use Rattle.std.specs.Prelude.{◌≡◌, ◌⊎◌, ℕ, zero, suc, ◌+◌, ◌*◌, ◌<◌, ◌≤◌, Bool, false, not, List, [], ◌∷◌, ◌++◌, length, take, drop, slice_get, slice_index_or, Some, IsTrue, if◌then◌else◌}
use Rattle.xs_atoms.specs.declared.sweep.Draft.{Draft}
use Rattle.xs_atoms.specs.declared.sweep.Stretch.{Stretch}
use Rattle.xs_atoms.specs.declared.turns.Turn.{Turn}
use Rattle.xs_atoms.specs.Turns.{odd, is_of, flips}

-- the flag of class c
abbrev pub flag : List Bool → ℕ → Bool
flag row c = slice_index_or row c false

-- the row of an atom, where each row has this width
abbrev pub row_of : ℕ → List Bool → ℕ → List Bool
row_of width rows atom = take width (drop (width * atom) rows)

-- where the stretch of this number begins, or the bound where there is none
abbrev pub start_of : List Stretch → ℕ → ℕ → ℕ
start_of [] i bound = bound
start_of (t ∷ ts) zero bound = t.start
start_of (t ∷ ts) (suc i) bound = start_of ts i bound

-- The atom is one of the symbol: its row has the classes that have the symbol, and where that is class
-- 0, no other symbol has the atom.
pub record IsAtomOf (turns : List Turn) (width : ℕ) (rows : List Bool) (firsts : List ℕ) (s atom : ℕ) : Type 0 where
  pub below : atom < length firsts
  pub same : (c : ℕ) → c < width → flag (row_of width rows atom) c ≡ odd (flips c s turns)
  pub only : IsTrue (odd (flips 0 s turns)) → slice_get firsts atom ≡ Some s

-- each symbol below the bound has the atom of its stretch
pub record IsDrafted (turns : List Turn) (width : ℕ) (d : Draft) (bound : ℕ) : Type 0 where
  pub long : length d.rows.items ≡ width * length d.firsts.items
  pub few : length d.firsts.items < 65535
  pub begins : start_of d.stretches.items 0 bound ≡ 0
  pub covered : (i : ℕ) (t : Stretch) → slice_get d.stretches.items i ≡ Some t → (s : ℕ) → t.start ≤ s → s < start_of d.stretches.items (suc i) bound → IsAtomOf turns width d.rows.items d.firsts.items s t.atom

-- an atom is new, with its row and its first symbol
pub record IsAdded (old new : Draft) (row : List Bool) (start atom : ℕ) : Type 0 where
  pub rows : new.rows.items ≡ old.rows.items ++ row
  pub firsts : new.firsts.items ≡ old.firsts.items ++ start ∷ []
  pub stretches : new.stretches.items ≡ old.stretches.items
  pub last : atom ≡ length old.firsts.items
  pub few : atom < 65534

-- an atom is there, of symbols that are not in class 0
pub record IsFound (old new : Draft) (row : List Bool) (atom : ℕ) : Type 0 where
  pub rows : new.rows.items ≡ old.rows.items
  pub firsts : new.firsts.items ≡ old.firsts.items
  pub stretches : new.stretches.items ≡ old.stretches.items
  pub same : take (length row) (drop (length row * atom) old.rows.items) ≡ row
  pub within : length row * atom + length row ≤ length old.rows.items
  pub wide : 0 < length row
  pub shared : flag row 0 ≡ false

abbrev pub IsGiven : Draft → Draft → List Bool → ℕ → ℕ → Type 0
IsGiven old new row start atom = IsAdded old new row start atom ⊎ IsFound old new row atom

-- a stretch is new, whose atom is given by its row
pub record IsPushed (old new : Draft) (start : ℕ) (row : List Bool) : Type 0 where
  pub middle : Draft
  pub atom : ℕ
  pub given : IsGiven old middle row start atom
  pub rows : new.rows.items ≡ middle.rows.items
  pub firsts : new.firsts.items ≡ middle.firsts.items
  pub stretches : new.stretches.items ≡ middle.stretches.items ++ record { start = start; atom = atom } ∷ []

-- the flag of the turn's class is turned
pub record IsTurned (old new : List Bool) (turn : Turn) : Type 0 where
  pub long : length new ≡ length old
  pub flags : (c : ℕ) → c < length old → flag new c ≡ (if is_of c turn.class then not (flag old c) else flag old c)

-- all symbols have the atoms of their stretches
abbrev pub IsSwept : ℕ → List Turn → Draft → Type 0
IsSwept width turns d = (bound : ℕ) → IsDrafted turns width d (suc bound)
