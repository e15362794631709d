-- How many symbols are still to come after each position of an automaton, at least.
use Rattle.std.specs.Prelude.{◌≡◌, ◌⊎◌, ℕ, ◌+◌, ◌<◌, ◌≤◌, List, length, Contains}
use Rattle.xs_regex.specs.declared.position.Position.{Position}
use Rattle.xs_regex.specs.Automaton.{Accepts, HasAt, Leads}
use Rattle.xs_cover.specs.Tables.{at}

-- the position's class has a symbol
abbrev pub HasSymbol : Position → ℕ → Type 0
HasSymbol p k = (s : ℕ) × HasAt p k s

-- one of the positions, at which the least number stands
pub record IsLowest (positions rests : List ℕ) (k : ℕ) : Type 0 where
  pub among : Contains positions k
  pub lowest : (i : ℕ) → i < length positions → at rests k ≤ at rests (at positions i)

-- position k is a last one, or one that follows it has less to come
abbrev pub IsOnTheWay : Position → List ℕ → ℕ → Type 0
IsOnTheWay p rests k = Contains p.last k ⊎ ((j : ℕ) × Leads p k j × (at rests j < at rests k))

-- numbers of symbols, where 1,000 stands for a position after which no end is known, or that no
-- word goes by
pub record AreRests (p : Position) (rests : List ℕ) : Type 0 where
  pub counted : length rests ≡ length p.classes
  pub low : (k : ℕ) → at rests k ≤ 1000
  pub symbols : (k : ℕ) → at rests k < 1000 → k < length p.classes → HasSymbol p k
  pub ends : (k : ℕ) → Contains p.last k → HasSymbol p k → at rests k ≡ 0
  pub onward : (k : ℕ) → k < length p.classes → at rests k < 1000 → IsOnTheWay p rests k

-- no position that follows position j, where words go by it, has less than one less to come
abbrev pub IsSettled : Position → List ℕ → ℕ → Type 0
IsSettled p rests j = HasSymbol p j → (k : ℕ) → Leads p j k → at rests j ≤ at rests k + 1

-- the word is accepted, and no accepted word is shorter
pub record IsShortest (p : Position) (w : List ℕ) : Type 0 where
  pub accepted : Accepts p w
  pub shortest : (v : List ℕ) → Accepts p v → length w ≤ length v

-- some accepted word has at most 512 symbols
abbrev pub HasShortWord : Position → Type 0
HasShortWord p = (w : List ℕ) × Accepts p w × (length w ≤ 512)
