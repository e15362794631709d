-- How far a search for what clauses make has come.
use Rattle.std.specs.Prelude.{◌≡◌, ℕ, ◌<◌, ◌≤◌, ◌⊎◌, Bool, true, false, List, [], ◌∷◌, ◌++◌, length, set, slice_index_or}
use Rattle.std.specs.List.{Contains}
use Rattle.xs_clauses.specs.declared.clause.Clause.{Clause}
use Rattle.xs_clauses.specs.declared.search.Search.{Search}
use Rattle.xs_clauses.specs.Made.{IsMade}

-- the flag of the number is set
abbrev pub IsSet : List Bool → ℕ → Type 0
IsSet flags n = slice_index_or flags n false ≡ true

-- what stands for a clause that is not there
abbrev pub no_clause : Clause
no_clause = record { head = 0; premises = [] }

abbrev pub clause_of : List Clause → ℕ → Clause
clause_of clauses k = slice_index_or clauses k no_clause

-- that many rows, all empty
pub record AreBlank (count : ℕ) (uses : List (List ℕ)) : Type 0 where
  pub rows : length uses ≡ count
  pub blank : (n : ℕ) → slice_index_or uses n [] ≡ []

-- the place was added to the rows of the premises, and nothing else to any row
pub record IsNoted (premises : List ℕ) (place : ℕ) (uses new : List (List ℕ)) : Type 0 where
  pub rows : length new ≡ length uses
  pub kept : (n k : ℕ) → Contains (slice_index_or uses n []) k → Contains (slice_index_or new n []) k
  pub noted : (n : ℕ) → Contains premises n → Contains (slice_index_or new n []) place
  pub only : (n k : ℕ) → Contains (slice_index_or new n []) k → Contains (slice_index_or uses n []) k ⊎ (k ≡ place)

-- each row has the places of the clauses before place `end` that have the number as a premise, and
-- only places of clauses
pub record AreUsesTo (clauses : List Clause) (end : ℕ) (uses : List (List ℕ)) : Type 0 where
  pub noted : (k n : ℕ) → k < end → Contains (clause_of clauses k).premises n → Contains (slice_index_or uses n []) k
  pub places : (n k : ℕ) → Contains (slice_index_or uses n []) k → k < length clauses

-- a row for each number below the count with the places of the clauses that have it as a premise
pub record AreUses (count : ℕ) (clauses : List Clause) (uses : List (List ℕ)) : Type 0 where
  pub rows : length uses ≡ count
  pub all : AreUsesTo clauses (length clauses) uses

-- the place is the first from `from` on at which stands a number whose flag is not set, or the
-- list's end
pub record IsFirstUnset (premises : List ℕ) (from : ℕ) (flags : List Bool) (place : ℕ) : Type 0 where
  pub low : from ≤ place
  pub high : place ≤ length premises
  pub passed : (i : ℕ) → from ≤ i → i < place → IsSet flags (slice_index_or premises i 0)
  pub stopped : place < length premises → IsSet flags (slice_index_or premises place 0) → ⊥

-- The flags that are set are of numbers that are made and were found, and no other number was
-- found. Each clause has a dot, and the flags of the premises before it are set.
pub record Fits (clauses : List Clause) (flags : List Bool) (found dots : List ℕ) : Type 0 where
  pub made : (n : ℕ) → IsSet flags n → IsMade clauses n
  pub known : (n : ℕ) → IsSet flags n → Contains found n
  pub set : (n : ℕ) → Contains found n → IsSet flags n
  pub counted : length dots ≡ length clauses
  pub within : (k : ℕ) → slice_index_or dots k 0 ≤ length (clause_of clauses k).premises
  pub passed : (k i : ℕ) → i < slice_index_or dots k 0 → IsSet flags (slice_index_or (clause_of clauses k).premises i 0)

abbrev pub IsFit : List Clause → Search → Type 0
IsFit clauses s = Fits clauses s.flags.items s.found.items s.dots.items

-- the number's flag is set now, and it was found now or before
pub record IsMarked (old new : Search) (n : ℕ) : Type 0 where
  pub flags : new.flags.items ≡ set old.flags.items n true
  pub dots : new.dots.items ≡ old.dots.items
  pub found : (IsSet old.flags.items n × (new.found.items ≡ old.found.items)) ⊎ (new.found.items ≡ old.found.items ++ n ∷ [])

-- each flag that was set is set, and what was found stands in front
pub record Grows (old new : Search) : Type 0 where
  pub count : length new.flags.items ≡ length old.flags.items
  pub kept : (n : ℕ) → IsSet old.flags.items n → IsSet new.flags.items n
  pub added : List ℕ
  pub longer : new.found.items ≡ old.found.items ++ added

-- the flag of the clause's head is set, or one of its premises is none of the numbers seen
abbrev pub IsSettled : List Clause → List Bool → List ℕ → ℕ → Type 0
IsSettled clauses flags seen k = IsSet flags (clause_of clauses k).head ⊎ ((m : ℕ) × Contains (clause_of clauses k).premises m × (Contains seen m → ⊥))

-- each clause all of whose premises' flags are set has its head's flag set
abbrev pub IsClosed : List Clause → List Bool → Type 0
IsClosed clauses flags = (k : ℕ) → k < length clauses → ((n : ℕ) → Contains (clause_of clauses k).premises n → IsSet flags n) → IsSet flags (clause_of clauses k).head
