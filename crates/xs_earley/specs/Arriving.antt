-- What the items of a set and its begun fixed words lead to by the next symbol.
use Rattle.std.specs.Prelude.{◌≡◌, ℕ, ◌+◌, ◌-◌, ◌<◌, ◌&&◌, ◌||◌, ◌↔◌, Bool, false, not, nat_le, nat_eq, List, [], ◌∷◌, ◌++◌, Option, None, Some, slice_get, slice_index_or, Contains, if◌then◌else◌}
use Rattle.xs_chart.specs.declared.item.Item.{Item}
use Rattle.xs_regex.specs.declared.position.Position.{Position}
use Rattle.xs_gram.specs.Grammar.{Grammar, term_of, skip_of}
use Rattle.xs_atoms.specs.declared.atoms.Atoms.{Atoms}
use Rattle.xs_atoms.specs.Alphabet.{class_has}
use Rattle.xs_chart_laws.specs.Next.{IsBegun}
use Rattle.xs_earley.specs.declared.begun.Begun.{Begun}
use Rattle.xs_earley.specs.declared.rows.Row.{Row}
use Rattle.xs_earley.specs.declared.rows.Stand.{Stand}
use Rattle.xs_earley.specs.declared.rows.Stand.TheVariants.{AtEnd, AtNon, AtWord, AtTerm, AtSkip}
use Rattle.xs_earley.specs.declared.facts.Facts.{Facts}
use Rattle.xs_earley.specs.Facts.{row_at}

-- what each element gives, one after another
abbrev pub gathered : {A B : Type 0} → (A → List B) → List A → List B
gathered f [] = []
gathered f (x ∷ xs) = f x ++ gathered f xs

-- the symbol is in one of the ranges
abbrev pub in_class : List (ℕ × ℕ) → ℕ → Bool
in_class [] s = false
in_class (r ∷ rs) s = (nat_le r.0 s && nat_le s r.1) || in_class rs s

-- position k has the symbol in its class
abbrev pub at_has : Position → ℕ → ℕ → Bool
at_has a k s = in_class (slice_index_or a.classes k []) s

-- where the grammar has atoms: of the classes with these numbers, that of position k has the atom exactly where
-- the position has the symbol
abbrev pub IsTold : Facts → List ℕ → ℕ → Position → ℕ → ℕ → Type 0
IsTold f classes atom a s k = (atoms : Atoms) → f.atoms ≡ Some atoms → class_has atoms (slice_index_or classes k 0) atom ≡ at_has a k s

-- the positions to which the automaton may go from a state, whose place before the automaton has number `base`
abbrev pub positions_at : Position → ℕ → ℕ → List ℕ
positions_at a state base = if nat_eq state base then a.first else slice_index_or a.follow (state - (base + 1)) []

-- the item inside an automaton at the position, where that has the symbol
abbrev pub entered : Position → ℕ → ℕ → ℕ → ℕ → List Item
entered a s base origin k = if at_has a k s then record { state = base + 1 + k; origin = origin } ∷ [] else []

abbrev pub lex_due : Position → ℕ → ℕ → ℕ → ℕ → List Item
lex_due a s state base origin = gathered (entered a s base origin) (positions_at a state base)

-- the letter is there, and it is the symbol
abbrev pub is_letter : Option ℕ → ℕ → Bool
is_letter None s = false
is_letter (Some x) s = nat_eq x s

-- the symbol at a place of a fixed word is its last one, and is read: then the item after the word is due
abbrev pub word_due : List ℕ → ℕ → ℕ → ℕ → Item → List Item
word_due letters s at end item = if is_letter (slice_get letters at) s && nat_eq (at + 1) end then item ∷ [] else []

-- it is read and is not the last one: then the word is begun
abbrev pub word_begun : List ℕ → ℕ → ℕ → ℕ → Begun → List Begun
word_begun letters s at end b = if is_letter (slice_get letters at) s && not (nat_eq (at + 1) end) then b ∷ [] else []

-- the items that are due by an item, and the words that it begins
abbrev pub due_at : Grammar → List ℕ → ℕ → Item → Row → Stand → List Item
due_at g letters s item row (AtEnd n) = []
due_at g letters s item row (AtNon n) = []
due_at g letters s item row (AtWord from end) = word_due letters s from end (record { state = row.next; origin = item.origin })
due_at g letters s item row (AtTerm t) = lex_due (term_of g t).automaton s item.state row.base item.origin
due_at g letters s item row (AtSkip k) = lex_due (skip_of g k).automaton s item.state row.base item.origin

abbrev pub begun_at : List ℕ → ℕ → Item → Stand → List Begun
begun_at letters s item (AtEnd n) = []
begun_at letters s item (AtNon n) = []
begun_at letters s item (AtWord from end) = word_begun letters s from end (record { state = item.state; origin = item.origin; count = 1 })
begun_at letters s item (AtTerm t) = []
begun_at letters s item (AtSkip k) = []

abbrev pub item_due : Grammar → Facts → ℕ → Item → List Item
item_due g f s item = due_at g f.letters.items s item (row_at f.rows.items item.state) (row_at f.rows.items item.state).stand

abbrev pub item_begun : Facts → ℕ → Item → List Begun
item_begun f s item = begun_at f.letters.items s item (row_at f.rows.items item.state).stand

-- the items that are due by a begun word, and the word with one symbol more
abbrev pub rest_due : List ℕ → ℕ → Begun → Row → Stand → List Item
rest_due letters s b row (AtEnd n) = []
rest_due letters s b row (AtNon n) = []
rest_due letters s b row (AtWord from end) = word_due letters s (from + b.count) end (record { state = row.next; origin = b.origin })
rest_due letters s b row (AtTerm t) = []
rest_due letters s b row (AtSkip k) = []

abbrev pub rest_begun : List ℕ → ℕ → Begun → Stand → List Begun
rest_begun letters s b (AtEnd n) = []
rest_begun letters s b (AtNon n) = []
rest_begun letters s b (AtWord from end) = word_begun letters s (from + b.count) end (record { state = b.state; origin = b.origin; count = b.count + 1 })
rest_begun letters s b (AtTerm t) = []
rest_begun letters s b (AtSkip k) = []

abbrev pub more_due : Facts → ℕ → Begun → List Item
more_due f s b = rest_due f.letters.items s b (row_at f.rows.items b.state) (row_at f.rows.items b.state).stand

abbrev pub more_begun : Facts → ℕ → Begun → List Begun
more_begun f s b = rest_begun f.letters.items s b (row_at f.rows.items b.state).stand

-- the begun words of a place of the document are these: those of which a symbol was read, and not the last one
abbrev pub AreBegun : Grammar → List ℕ → List (List Item) → ℕ → List Begun → Type 0
AreBegun g w sets k begun = (b : Begun) → Contains begun b ↔ ((0 < b.count) × IsBegun g w sets k b.state b.origin b.count)
