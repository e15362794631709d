-- Least words of terminals.
use Rattle.std.specs.Prelude.{◌≡◌, ℕ, ◌+◌, ◌<◌, List, [], length, slice_index_or}
use Rattle.xs_gram.specs.Grammar.{Grammar, term_of}
use Rattle.xs_cover.specs.Shortest.{IsShortest}
use Rattle.xs_cover.specs.Tables.{at}

abbrev pub word_at : List (List ℕ) → ℕ → List ℕ
word_at words t = slice_index_or words t []

-- a shortest word for each terminal, which costs its length once for each side
pub record AreLeaves (g : Grammar) (words : List (List ℕ)) (costs : List ℕ) : Type 0 where
  pub counted : length words ≡ length g.terms
  pub costs_counted : length costs ≡ length g.terms
  pub shortest : (t : ℕ) → t < length g.terms → IsShortest (term_of g t).automaton (word_at words t)
  pub costs_are : (t : ℕ) → t < length g.terms → at costs t ≡ length (word_at words t) + length (word_at words t)
