-- The states in which the rules of each nonterminal begin, and those in which the start's rules end.
use Rattle.std.specs.Prelude.{◌≡◌, ◌↔◌, ℕ, ◌<◌, List, [], length, slice_index_or, Contains}
use Rattle.xs_chart.specs.Different.{AreDifferent}
use Rattle.xs_gram.specs.Grammar.{Grammar, items, IsRuleOf}
use Rattle.xs_gram.specs.Places.{at_dot}
use Rattle.xs_chart_laws.specs.Charts.{IsNumber}

-- a rule of the nonterminal begins in the state
abbrev pub IsStart : Grammar → ℕ → ℕ → Type 0
IsStart g non state = (q : ℕ) × IsRuleOf g non q × IsNumber g state (at_dot q 0)

-- a row for each nonterminal has the states in which its rules among that many first ones begin, each once
pub record AreStarts (g : Grammar) (count : ℕ) (rows : List (List ℕ)) : Type 0 where
  pub counted : length rows ≡ g.nons
  pub exact : (non state : ℕ) → non < g.nons → Contains (slice_index_or rows non []) state ↔ ((start : IsStart g non state) × (start.0 < count))
  pub different : (non : ℕ) → AreDifferent (slice_index_or rows non [])

-- a rule of the start ends in the state
abbrev pub IsEnd : Grammar → ℕ → Type 0
IsEnd g state = (q : ℕ) × IsRuleOf g g.start q × IsNumber g state (at_dot q (length (items g q)))

-- the states in which the start's rules among that many first ones end are these
abbrev pub AreEnds : Grammar → ℕ → List ℕ → Type 0
AreEnds g count ends = (state : ℕ) → Contains ends state ↔ ((end : IsEnd g state) × (end.0 < count))
