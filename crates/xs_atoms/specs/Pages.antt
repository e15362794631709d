-- The table of two levels: pages of 256 symbols, and their cells.
use Rattle.std.specs.Prelude.{◌≡◌, ℕ, suc, ◌+◌, ◌*◌, ◌<◌, ◌≤◌, List, ◌++◌, length, slice_get, slice_index_or, Option, None, Some}
use Rattle.xs_atoms.specs.declared.sweep.Stretch.{Stretch}

-- the symbol is in the stretch of this number
pub record IsIn (stretches : List Stretch) (i s : ℕ) : Type 0 where
  pub stretch : Stretch
  pub there : slice_get stretches i ≡ Some stretch
  pub begun : stretch.start ≤ s
  pub before : (next : Stretch) → slice_get stretches (suc i) ≡ Some next → s < next.start

-- the atom is that of the stretch that the symbol is in
pub record IsAtomIn (stretches : List Stretch) (s atom : ℕ) : Type 0 where
  pub number : ℕ
  pub in_stretch : IsIn stretches number s
  pub same : atom ≡ in_stretch.stretch.atom

-- the cells from one on are the atoms of the 256 symbols from one on
pub record IsPage (stretches : List Stretch) (cells : List ℕ) (first begin : ℕ) : Type 0 where
  pub within : first + 256 ≤ length cells
  pub atoms : (low : ℕ) → low < 256 → IsAtomIn stretches (begin + low) (slice_index_or cells (first + low) 0)

-- the cells from one on are all the atom
pub record IsSame (cells : List ℕ) (first atom : ℕ) : Type 0 where
  pub within : first + 256 ≤ length cells
  pub atoms : (low : ℕ) → low < 256 → slice_index_or cells (first + low) 0 ≡ atom

-- for an atom the beginning of a page of that atom alone, where there is one
abbrev pub AreWhole : List ℕ → List (Option ℕ) → Type 0
AreWhole cells whole = (atom first : ℕ) → slice_get whole atom ≡ Some (Some first) → IsSame cells first atom

-- the cells of pages, in the order of the pages
abbrev pub ArePages : List Stretch → List ℕ → List ℕ → Type 0
ArePages stretches cells pages = (q first : ℕ) → slice_get pages q ≡ Some first → IsPage stretches cells first (q * 256)

-- the cells with more
abbrev pub IsLonger : List ℕ → List ℕ → Type 0
IsLonger old new = (more : List ℕ) × (new ≡ old ++ more)

-- the atom that the table has for a symbol of a page
abbrev pub cell_of : List ℕ → ℕ → ℕ → Option ℕ → ℕ
cell_of cells rest low None = rest
cell_of cells rest low (Some first) = slice_index_or cells (first + low) rest
