-- Where an automaton can go, as clauses on its positions.
use Rattle.std.specs.Prelude.{◌≡◌, ◌⊎◌, ℕ, ◌<◌, List, [], ◌∷◌, None, Some}
use Rattle.std.specs.declared.option.Option.{Option}
use Rattle.std.specs.List.{Contains}
use Rattle.xs_regex.specs.declared.position.Position.{Position}
use Rattle.xs_regex.specs.Automaton.{HasAt, Leads, Runs}
use Rattle.xs_clauses.specs.declared.clause.Clause.{Clause}

-- the position's class has a symbol
abbrev pub HasSymbol : Position → ℕ → Type 0
HasSymbol a k = (s : ℕ) × HasAt a k s

-- a word leads to the position
abbrev pub IsReached : Position → ℕ → Type 0
IsReached a k = (w : List ℕ) × Runs a w k

-- position k may come first, or after another one
abbrev pub GoesTo : Position → Option ℕ → ℕ → Type 0
GoesTo a None k = Contains a.first k
GoesTo a (Some j) k = Leads a j k

-- such a step as a clause: its position is reached if the one before is
abbrev pub premises_from : Option ℕ → List ℕ
premises_from None = []
premises_from (Some j) = j ∷ []

abbrev pub step_to : Option ℕ → ℕ → Clause
step_to from k = record { head = k; premises = premises_from from }

-- the clause is a step to a position whose class has a symbol
pub record IsStep (a : Position) (c : Clause) : Type 0 where
  pub from : Option ℕ
  pub to : ℕ
  pub goes : GoesTo a from to
  pub symbol : HasSymbol a to
  pub is : c ≡ step_to from to

-- these are such steps, all from the start and all from the positions before `end` among them
pub record AreSteps (a : Position) (end : ℕ) (clauses : List Clause) : Type 0 where
  pub starts : (k : ℕ) → Contains a.first k → HasSymbol a k → Contains clauses (step_to None k)
  pub steps : (j k : ℕ) → j < end → Leads a j k → HasSymbol a k → Contains clauses (step_to (Some j) k)
  pub only : (c : Clause) → Contains clauses c → IsStep a c

-- the clause is a step to one of the targets
pub record IsStepAmong (a : Position) (from : Option ℕ) (targets : List ℕ) (c : Clause) : Type 0 where
  pub to : ℕ
  pub among : Contains targets to
  pub symbol : HasSymbol a to
  pub is : c ≡ step_to from to

-- the steps to the targets whose classes have a symbol were added
pub record AreAdded (a : Position) (from : Option ℕ) (targets : List ℕ) (old new : List Clause) : Type 0 where
  pub kept : (c : Clause) → Contains old c → Contains new c
  pub there : (k : ℕ) → Contains targets k → HasSymbol a k → Contains new (step_to from k)
  pub only : (c : Clause) → Contains new c → Contains old c ⊎ IsStepAmong a from targets c
