-- Sets of pairs of numbers: as a table of marks, and as rows, each a number with its partners.
use Rattle.std.specs.Prelude.{◌≡◌, ◌≢◌, ℕ, suc, ◌≤◌, ◌<◌, List, [], ◌∷◌, length, replicate, get_or, Bool, true, false, ◌&&◌, ◌||◌, nat_eq}
use Rattle.std.specs.List.{All}

-- a table of marks, which is as wide as each of its rows
pub record Grid : Type 0 where
  pub wide : ℕ
  pub rows : List (List Bool)

-- the table of that many rows and columns without marks
abbrev pub blank : ℕ → ℕ → Grid
blank high wide = record { wide = wide; rows = replicate high (replicate wide false) }

-- whether the pair is marked; a pair outside the table is not
abbrev pub marked : Grid → ℕ → ℕ → Bool
marked z a b = get_or (get_or z.rows a []) b false

-- the table has that many rows and columns
pub record IsSized (count columns : ℕ) (z : Grid) : Type 0 where
  pub high : length z.rows ≡ count
  pub wide : z.wide ≡ columns
  pub even : (a : ℕ) → a < count → length (get_or z.rows a []) ≡ columns

-- one pair more is marked
pub record Marks (old new : Grid) (a b : ℕ) : Type 0 where
  pub wide : new.wide ≡ old.wide
  pub high : length new.rows ≡ length old.rows
  pub there : marked new a b ≡ true
  pub others : (c d : ℕ) → (c ≡ a → d ≡ b → ⊥) → marked new c d ≡ marked old c d

-- b is the least partner of a from the number `from` on
pub record IsNext (z : Grid) (a from b : ℕ) : Type 0 where
  pub there : marked z a b ≡ true
  pub order : from ≤ b
  pub least : (c : ℕ) → from ≤ c → c < b → marked z a c ≡ false

-- a number and its partners
pub record Row : Type 0 where
  pub state : ℕ
  pub partners : List ℕ

-- the numbers ascend, from the first that may come on
abbrev pub Ascends : ℕ → List ℕ → Type 0
Ascends low [] = Unit {0}
Ascends low (b ∷ bs) = (low ≤ b) × Ascends (suc b) bs

-- the row has partners, which ascend and are below the bound
pub record IsRow (wide : ℕ) (r : Row) : Type 0 where
  pub some : r.partners ≢ []
  pub order : Ascends 0 r.partners
  pub within : All (λ b. b < wide) r.partners

-- rows whose numbers ascend, from the first that may come on, and are below a bound
abbrev pub AreRows : ℕ → ℕ → ℕ → List Row → Type 0
AreRows high wide low [] = Unit {0}
AreRows high wide low (r ∷ rs) = (low ≤ r.state) × (r.state < high) × IsRow wide r × AreRows high wide (suc r.state) rs

-- the rows of a set of pairs below two bounds
abbrev pub IsSet : ℕ → ℕ → List Row → Type 0
IsSet high wide rs = AreRows high wide 0 rs

-- whether the number is in the list
abbrev pub has_number : List ℕ → ℕ → Bool
has_number [] n = false
has_number (b ∷ bs) n = nat_eq b n || has_number bs n

-- whether the rows have the pair
abbrev pub holds : List Row → ℕ → ℕ → Bool
holds [] a b = false
holds (r ∷ rs) a b = (nat_eq r.state a && has_number r.partners b) || holds rs a b

-- the numbers at which the list says true, where its first is number k
abbrev pub places : ℕ → List Bool → List ℕ
places k [] = []
places k (true ∷ bs) = k ∷ places (suc k) bs
places k (false ∷ bs) = places (suc k) bs

-- a row, if it has partners, and then the others
abbrev pub row_then : ℕ → List ℕ → List Row → List Row
row_then a [] rs = rs
row_then a (b ∷ bs) rs = record { state = a; partners = b ∷ bs } ∷ rs

-- the rows of a table that have marks, where its first is number a
abbrev pub rows_from : ℕ → List (List Bool) → List Row
rows_from a [] = []
rows_from a (r ∷ rs) = row_then a (places 0 r) (rows_from (suc a) rs)

-- the rows of what a table marks
abbrev pub rows_of : Grid → List Row
rows_of z = rows_from 0 z.rows
