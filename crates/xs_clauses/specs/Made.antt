-- What clauses make.
use Rattle.std.specs.Prelude.{◌≡◌, ◌↔◌, ℕ, ◌<◌, Bool, false, List, [], ◌∷◌, length, slice_index_or, IsTrue}
use Rattle.std.specs.List.{All, Contains}
use Rattle.xs_clauses.specs.declared.clause.Clause.{Clause}

-- the head and the premises are below the count
pub record IsBelow (count : ℕ) (c : Clause) : Type 0 where
  pub head : c.head < count
  pub premises : All (λ n. n < count) c.premises

abbrev pub AreBelow : ℕ → List Clause → Type 0
AreBelow count clauses = All (IsBelow count) clauses

-- The least set of numbers that has the head of each clause all of whose premises it has.
mutual
  pub data IsMade (clauses : List Clause) : ℕ → Type 0 where
    by : {n : ℕ} → (c : Clause) → Contains clauses c → c.head ≡ n → AreMade clauses c.premises → IsMade clauses n

  pub data AreMade (clauses : List Clause) : List ℕ → Type 0 where
    none : AreMade clauses []
    more : {n : ℕ} {ns : List ℕ} → IsMade clauses n → AreMade clauses ns → AreMade clauses (n ∷ ns)

-- a flag for each number below the count, which is set exactly where P holds of the number
pub record AreFlags (P : ℕ → Type 0) (count : ℕ) (flags : List Bool) : Type 0 where
  pub counted : length flags ≡ count
  pub exact : (n : ℕ) → n < count → IsTrue (slice_index_or flags n false) ↔ P n
