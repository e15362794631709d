-- The words that a position automaton goes by, and those that it accepts.
use Rattle.std.specs.Prelude.{◌≡◌, ◌⊎◌, ℕ, ◌<◌, List, [], ◌∷◌, ◌++◌, length, slice_get, Contains, IsTrue, IsSomeAnd}
use Rattle.xs_class.specs.Classes.{Has}
use Rattle.xs_regex.specs.declared.position.Position.{Position}

-- position k has the symbol in its class
abbrev pub HasAt : Position → ℕ → ℕ → Type 0
HasAt p k s = IsSomeAnd (slice_get p.classes k) (λ class. Has class s)

-- position k may follow position j
abbrev pub Leads : Position → ℕ → ℕ → Type 0
Leads p j k = IsSomeAnd (slice_get p.follow j) (λ row. Contains row k)

-- the automaton goes by a word from its start to a position: the first symbol's position is in
-- `first`, each next one follows the one before, and each symbol is in its position's class
pub data Runs (p : Position) : List ℕ → ℕ → Type 0 where
  begins : {w : List ℕ} {k : ℕ} → (s : ℕ) → Contains p.first k → HasAt p k s → w ≡ s ∷ [] → Runs p w k
  goes : {w : List ℕ} {k : ℕ} → (v : List ℕ) → (j s : ℕ) → Runs p v j → Leads p j k → HasAt p k s → w ≡ v ++ s ∷ [] → Runs p w k

-- the empty word where it is nullable, and each word by which it goes to a last position
abbrev pub Accepts : Position → List ℕ → Type 0
Accepts p w = ((w ≡ []) × IsTrue p.nullable) ⊎ ((k : ℕ) × Runs p w k × Contains p.last k)

-- the automaton goes on by a word from one position to another
pub data GoesOn (p : Position) : ℕ → List ℕ → ℕ → Type 0 where
  stays : {k : ℕ} → GoesOn p k [] k
  steps : {j end : ℕ} {w : List ℕ} → (k s : ℕ) → (v : List ℕ) → Leads p j k → HasAt p k s → GoesOn p k v end → w ≡ s ∷ v → GoesOn p j w end

-- each number of the list is below the bound
abbrev pub IsBelow : List ℕ → ℕ → Type 0
IsBelow numbers bound = (k : ℕ) → Contains numbers k → k < bound

-- each position's row is there, and all numbers are positions
pub record IsWellFormed (p : Position) : Type 0 where
  pub rows : length p.follow ≡ length p.classes
  pub first_in : IsBelow p.first (length p.classes)
  pub last_in : IsBelow p.last (length p.classes)
  pub follow_in : (j k : ℕ) → Leads p j k → k < length p.classes

-- each class has a member
abbrev pub ClassesHaveMembers : Position → Type 0
ClassesHaveMembers p = (k : ℕ) → k < length p.classes → (s : ℕ) × HasAt p k s

-- each position can be gone on from to a last one
abbrev pub EachEnds : Position → Type 0
EachEnds p = (k : ℕ) → k < length p.classes → (w : List ℕ) × (end : ℕ) × GoesOn p k w end × Contains p.last end
