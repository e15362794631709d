-- The maps of cells that searches over pairs of states mark.
use Rattle.std.specs.Prelude.{◌≡◌, ◌≢◌, ℕ, ◌<◌, Bool, true, false, List, [], length, get_or}

-- the number of cells in each map, and for each map which of them are marked
pub record Marks : Type 0 where
  pub cells : ℕ
  pub maps : List (List Bool)

-- whether the cell of map m is marked
abbrev pub marked_at : Marks → ℕ → ℕ → Bool
marked_at p m cell = get_or (get_or p.maps m []) cell false

-- no cell of any map is marked
abbrev pub HasNoMark : Marks → Type 0
HasNoMark p = (m cell : ℕ) → marked_at p m cell ≡ false

-- no cell of map m is marked now, and the other maps are as they were
pub record IsCleared (old new : Marks) (m : ℕ) : Type 0 where
  pub cells : new.cells ≡ old.cells
  pub here : (cell : ℕ) → marked_at new m cell ≡ false
  pub others : (i cell : ℕ) → i ≢ m → marked_at new i cell ≡ marked_at old i cell

-- the cell of map m is marked now, and all other cells are as they were
pub record IsMarked (old new : Marks) (m cell : ℕ) : Type 0 where
  pub cells : new.cells ≡ old.cells
  pub here : marked_at new m cell ≡ true
  pub there : (c : ℕ) → c ≢ cell → marked_at new m c ≡ marked_at old m c
  pub others : (i c : ℕ) → i ≢ m → marked_at new i c ≡ marked_at old i c

-- three maps of that many cells
pub record HasMaps (cells : ℕ) (maps : List (List Bool)) : Type 0 where
  pub three : length maps ≡ 3
  pub each : (m : ℕ) → m < 3 → length (get_or maps m []) ≡ cells
