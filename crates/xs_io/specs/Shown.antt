-- What a shelf shows of its files.
use Rattle.std.specs.Prelude.{◌≡◌, ◌≢◌, ℕ, ◌+◌, ◌≤◌, ◌<◌, ◌-◌, List, [], ◌++◌, length, drop, min, ⊤, None, Some, IsSome, Result, MatchResult}
use Rattle.std.specs.declared.option.Option.{Option}
use Rattle.xs_io.specs.Causes.{Rose}

-- a shelf's files by name, each with its bytes, where it shows them
abbrev pub Files : Type 0
Files = Option (List ℕ → Option (List ℕ))

-- the shelf shows its files, and has one of this name
abbrev pub Has : Files → List ℕ → Type 0
Has None name = ⊥
Has (Some files) name = IsSome (files name)

-- these bytes stand in the file from that place on, and they are none exactly at or past the end
abbrev pub StandAt : Option (List ℕ) → ℕ → List ℕ → Type 0
StandAt None at piece = ⊥
StandAt (Some bytes) at piece = (rest : List ℕ) × (drop at bytes ≡ piece ++ rest) × (piece ≡ [] → length bytes ≤ at)

-- that many bytes are all that stand in the file from that place on and fit
abbrev pub IsFull : Option (List ℕ) → ℕ → ℕ → ℕ → Type 0
IsFull None at room n = ⊥
IsFull (Some bytes) at room n = n ≡ min room (length bytes - at)

-- these bytes stand in the file of this name from that place on, where the shelf shows it
abbrev pub StandIn : Files → List ℕ → ℕ → List ℕ → Type 0
StandIn None name at piece = ⊤
StandIn (Some files) name at piece = StandAt (files name) at piece

-- a count of the bytes given went up by no more than a call answered, and not where it failed
abbrev pub GivesAtMost : {E : Type 0} → ℕ → ℕ → Result ℕ E → Type 0
GivesAtMost before now result = MatchResult result (λ n. now ≤ before + n) (λ _. now ≤ before)

-- a name failed in a call: the count rose, and that of the file of this name where there is one
pub record NameFailed (files : Files) (name : List ℕ) (before now own_before own_now : ℕ) : Type 0 where
  pub shelf : Rose before now
  pub own : Has files name → Rose own_before own_now

-- the file has exactly these bytes, at most limit of them
abbrev pub IsFile : Files → List ℕ → List ℕ → ℕ → Type 0
IsFile None name bytes limit = length bytes ≤ limit
IsFile (Some files) name bytes limit = (files name ≡ Some bytes) × (length bytes ≤ limit)

-- the file has more than limit bytes
abbrev pub IsLongFile : Files → List ℕ → ℕ → Type 0
IsLongFile None name limit = ⊤
IsLongFile (Some files) name limit = (bytes : List ℕ) × (files name ≡ Some bytes) × (limit < length bytes)

-- calls on one name: the files stay, no count falls, and no other name's count moves
pub record Touches (files_before files_now : Files) (name : List ℕ) (before now : ℕ) (own_before own_now : List ℕ → ℕ) : Type 0 where
  pub same : files_now ≡ files_before
  pub later : before ≤ now
  pub name_later : own_before name ≤ own_now name
  pub others : (other : List ℕ) → other ≢ name → own_now other ≡ own_before other
