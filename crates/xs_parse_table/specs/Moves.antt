-- Moves of position automata over atoms: a table whose rows each stand for a set of positions.
use Rattle.std.specs.Prelude.{◌≡◌, ℕ, zero, suc, ◌+◌, ◌*◌, ◌<◌, ◌≤◌, List, [], ◌∷◌, length, Option, None, Some, slice_index_or, Contains, IsTrue}
use Rattle.xs_regex.specs.declared.position.Position.{Position}
use Rattle.xs_regex.specs.Automaton.{HasAt, Leads}
use Rattle.xs_atoms.specs.declared.atoms.Atoms.{Atoms}
use Rattle.xs_atoms.specs.Alphabet.{atom_of}

-- where a run stands, by the number of a row: at its start, or at one of the positions of a set
abbrev pub stand : List (List ℕ) → ℕ → Option (List ℕ)
stand sets zero = None
stand sets (suc i) = Some (slice_index_or sets i [])

-- a position that may come next, and that the run may end here
abbrev pub MayCome : Position → Option (List ℕ) → ℕ → Type 0
MayCome p None k = Contains p.first k
MayCome p (Some set) k = (j : ℕ) × Contains set j × Leads p j k

abbrev pub MayEnd : Position → Option (List ℕ) → Type 0
MayEnd p None = IsTrue p.nullable
MayEnd p (Some set) = (k : ℕ) × Contains set k × Contains p.last k

-- the positions are among those to which an atom leads
abbrev pub IsStep : Position → Atoms → Option (List ℕ) → ℕ → List ℕ → Type 0
IsStep p a from x set = (k : ℕ) → Contains set k → MayCome p from k × ((s : ℕ) → atom_of a s ≡ x → HasAt p k s)

abbrev pub cell_at : List ℕ → ℕ → ℕ
cell_at cells k = slice_index_or cells k 0

-- the cell leads to the row of a set to which the atom leads
pub record IsMove (p : Position) (a : Atoms) (sets : List (List ℕ)) (start i x cell : ℕ) : Type 0 where
  pub to : ℕ
  pub below : to < length sets
  pub leads : cell ≡ start + suc to * suc a.count
  pub step : IsStep p a (stand sets i) x (slice_index_or sets to [])

-- The rows of an automaton from one cell on: a cell for each atom, and one that is 1 only where a run
-- may end.
pub record AreMoves (p : Position) (a : Atoms) (cells : List ℕ) (start : ℕ) : Type 0 where
  pub sets : List (List ℕ)
  pub within : start + suc (length sets) * suc a.count ≤ length cells
  pub moves : (i x : ℕ) → i ≤ length sets → x < a.count → IsMove p a sets start i x (cell_at cells (start + i * suc a.count + x))
  pub ends : (i : ℕ) → i ≤ length sets → cell_at cells (start + i * suc a.count + a.count) ≡ 1 → MayEnd p (stand sets i)

-- from the row at one cell the atoms lead to a row where a run may end
abbrev pub Says : List ℕ → ℕ → ℕ → List ℕ → Type 0
Says cells count row [] = cell_at cells (row + count) ≡ 1
Says cells count row (x ∷ xs) = Says cells count (cell_at cells (row + x)) xs
