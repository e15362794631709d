-- How automata are put together.
use Rattle.std.specs.Prelude.{◌≡◌, ◌⊎◌, ◌&&◌, ◌||◌, ℕ, ◌+◌, ◌<◌, ◌≤◌, Bool, true, false, List, [], ◌∷◌, ◌++◌, length, map, slice_get, Contains, IsSomeAnd, IsTrue, if◌then◌else◌}
use Rattle.std.specs.declared.option.Option.{Option}
use Rattle.xs_regex.specs.declared.forms.Join.{Join}
use Rattle.xs_regex.specs.declared.forms.Join.TheVariants.{Turn, Choice}
use Rattle.xs_regex.specs.declared.position.Position.{Position}
use Rattle.xs_regex.specs.declared.regex.Regex.{Regex}
use Rattle.xs_regex.specs.declared.regex.Regex.TheVariants.{Then', Or'}
use Rattle.xs_regex.specs.Automaton.{Accepts, IsWellFormed, EachEnds, ClassesHaveMembers}
use Rattle.xs_regex.specs.Size.{IsInOrder}

-- the numbers, each greater by n
abbrev pub shift : ℕ → List ℕ → List ℕ
shift n ks = map (λ k. n + k) ks

-- row j has the number
abbrev pub HasRow : List (List ℕ) → ℕ → ℕ → Type 0
HasRow rows j k = IsSomeAnd (slice_get rows j) (λ row. Contains row k)

-- the rows of the sources have the targets besides what they had
pub record IsLinked (old : List (List ℕ)) (sources targets : List ℕ) (new : List (List ℕ)) : Type 0 where
  pub rows : length new ≡ length old
  pub kept : (j k : ℕ) → HasRow old j k → HasRow new j k
  pub linked : (j k : ℕ) → j < length old → Contains sources j → Contains targets k → HasRow new j k
  pub only : (j k : ℕ) → HasRow new j k → HasRow old j k ⊎ (Contains sources j × Contains targets k)

-- one automaton and then another, whose positions come after
pub record IsThen (p q r : Position) : Type 0 where
  pub rows : List (List ℕ)
  pub classes : r.classes ≡ p.classes ++ q.classes
  pub first : r.first ≡ p.first ++ (if p.nullable then shift (length p.classes) q.first else [])
  pub last : r.last ≡ (if q.nullable then p.last else []) ++ shift (length p.classes) q.last
  pub nullable : r.nullable ≡ p.nullable && q.nullable
  pub linked : IsLinked p.follow p.last (shift (length p.classes) q.first) rows
  pub follow : r.follow ≡ rows ++ map (shift (length p.classes)) q.follow

-- one automaton or another, whose positions come after
pub record IsEither (p q r : Position) : Type 0 where
  pub classes : r.classes ≡ p.classes ++ q.classes
  pub first : r.first ≡ p.first ++ shift (length p.classes) q.first
  pub last : r.last ≡ p.last ++ shift (length p.classes) q.last
  pub nullable : r.nullable ≡ p.nullable || q.nullable
  pub follow : r.follow ≡ p.follow ++ map (shift (length p.classes)) q.follow

-- both automata are well formed, and together they have at most 512 positions
pub record CanJoin (p q : Position) : Type 0 where
  pub front : IsWellFormed p
  pub rest : IsWellFormed q
  pub small : length p.classes + length q.classes ≤ 512

-- r is p and q, joined so
abbrev pub AreJoined : Join → Position → Position → Position → Type 0
AreJoined Turn = IsThen
AreJoined Choice = IsEither

-- the regex is these two, joined so
abbrev pub AreParts : Join → Regex → Regex → Regex → Type 0
AreParts Turn (Then' p a q b) x y = (x ≡ a) × (y ≡ b)
AreParts Choice (Or' p a q b) x y = (x ≡ a) × (y ≡ b)
AreParts join r x y = ⊥

-- an automaton once or more
pub record IsRound (p r : Position) : Type 0 where
  pub classes : r.classes ≡ p.classes
  pub first : r.first ≡ p.first
  pub last : r.last ≡ p.last
  pub nullable : r.nullable ≡ p.nullable
  pub linked : IsLinked p.follow p.last p.first r.follow

-- the automaton, which also accepts the empty word
abbrev pub optional : Position → Position
optional p = record p { nullable = true }

-- the numbers of both lists, and no others
pub record IsUnion (a b all : List ℕ) : Type 0 where
  pub left : (k : ℕ) → Contains a k → Contains all k
  pub right : (k : ℕ) → Contains b k → Contains all k
  pub only : (k : ℕ) → Contains all k → Contains a k ⊎ Contains b k

-- the automaton of no position
abbrev pub bare : Bool → Position
bare nullable = record { classes = []; first = []; last = []; follow = []; nullable = nullable }

-- the automaton of one class
abbrev pub of_class : List (ℕ × ℕ) → Position
of_class class = record { classes = class ∷ []; first = 0 ∷ []; last = 0 ∷ []; follow = [] ∷ []; nullable = false }

-- each position can be gone on from to a last one, and some word is accepted
pub record IsTrim (p : Position) : Type 0 where
  pub ends : EachEnds p
  pub lives : IsTrue p.nullable ⊎ ((k : ℕ) × Contains p.first k)

-- the automaton of these words, with these classes, which is trim where no class is empty and Sure holds
pub record IsAutomaton (Word : List ℕ → Type 0) (classes : List (List (ℕ × ℕ))) (Sure : Type 0) (p : Position) : Type 0 where
  pub formed : IsWellFormed p
  pub sound : (w : List ℕ) → Accepts p w → Word w
  pub complete : (w : List ℕ) → Word w → Accepts p w
  pub classes_are : p.classes ≡ classes
  pub trim : Sure → ClassesHaveMembers p → IsTrim p

-- the counts are in order, and what is repeated is trim
abbrev pub IsSure : Position → ℕ → Option ℕ → Type 0
IsSure one least most = IsInOrder least most × (ClassesHaveMembers one → IsTrim one)
