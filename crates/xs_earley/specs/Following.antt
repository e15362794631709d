-- The ranges of the symbols by which the items of a set and its begun fixed words go on.
use Rattle.std.specs.Prelude.{ℕ, ◌+◌, List, [], ◌∷◌, Option, None, Some, slice_get, slice_index_or}
use Rattle.xs_chart.specs.declared.item.Item.{Item}
use Rattle.xs_regex.specs.declared.position.Position.{Position}
use Rattle.xs_gram.specs.Grammar.{Grammar, term_of, skip_of}
use Rattle.xs_earley.specs.declared.begun.Begun.{Begun}
use Rattle.xs_earley.specs.declared.rows.Row.{Row}
use Rattle.xs_earley.specs.declared.rows.Stand.{Stand}
use Rattle.xs_earley.specs.declared.rows.Stand.TheVariants.{AtEnd, AtNon, AtWord, AtTerm, AtSkip}
use Rattle.xs_earley.specs.declared.facts.Facts.{Facts}
use Rattle.xs_earley.specs.Facts.{row_at}
use Rattle.xs_earley.specs.Arriving.{gathered, positions_at}

-- the ranges of the class of position k
abbrev pub class_at : Position → ℕ → List (ℕ × ℕ)
class_at a k = slice_index_or a.classes k []

-- by the positions to which the automaton may go from a state
abbrev pub lex_next : Position → ℕ → ℕ → List (ℕ × ℕ)
lex_next a state base = gathered (class_at a) (positions_at a state base)

-- the one symbol, where there is one
abbrev pub letter_next : Option ℕ → List (ℕ × ℕ)
letter_next None = []
letter_next (Some x) = (x, x) ∷ []

-- by an item
abbrev pub next_at : Grammar → List ℕ → Item → Row → Stand → List (ℕ × ℕ)
next_at g letters item row (AtEnd n) = []
next_at g letters item row (AtNon n) = []
next_at g letters item row (AtWord from end) = letter_next (slice_get letters from)
next_at g letters item row (AtTerm t) = lex_next (term_of g t).automaton item.state row.base
next_at g letters item row (AtSkip k) = lex_next (skip_of g k).automaton item.state row.base

abbrev pub item_next : Grammar → Facts → Item → List (ℕ × ℕ)
item_next g f item = next_at g f.letters.items item (row_at f.rows.items item.state) (row_at f.rows.items item.state).stand

-- by a begun word
abbrev pub rest_next : List ℕ → Begun → Stand → List (ℕ × ℕ)
rest_next letters b (AtEnd n) = []
rest_next letters b (AtNon n) = []
rest_next letters b (AtWord from end) = letter_next (slice_get letters (from + b.count))
rest_next letters b (AtTerm t) = []
rest_next letters b (AtSkip k) = []

abbrev pub more_next : Facts → Begun → List (ℕ × ℕ)
more_next f b = rest_next f.letters.items b (row_at f.rows.items b.state).stand
