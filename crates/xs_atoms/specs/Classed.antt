-- The numbers of classes.
use Rattle.std.specs.Prelude.{◌≡◌, ℕ, ◌<◌, List, [], length, slice_get, slice_index_or, Some}
use Rattle.xs_gram.specs.Grammar.{Grammar, term_of, skip_of}

-- what stood at a number stands there
abbrev pub StayAll : List (List (ℕ × ℕ)) → List (List (ℕ × ℕ)) → Type 0
StayAll old new = (n : ℕ) (class : List (ℕ × ℕ)) → slice_get old n ≡ Some class → slice_get new n ≡ Some class

-- the row has for each of the classes its number
abbrev pub AreNumbersOf : List (List (ℕ × ℕ)) → List (List (ℕ × ℕ)) → List ℕ → Type 0
AreNumbersOf distinct classes row = (k : ℕ) (class : List (ℕ × ℕ)) → slice_get classes k ≡ Some class → slice_get distinct (slice_index_or row k 0) ≡ Some class

-- the rows have the numbers of the classes of terminals, and of ignorables
abbrev pub AreTermNumbers : Grammar → List (List (ℕ × ℕ)) → List (List ℕ) → Type 0
AreTermNumbers g distinct rows = (t : ℕ) → t < length g.terms → AreNumbersOf distinct (term_of g t).automaton.classes (slice_index_or rows t [])

abbrev pub AreSkipNumbers : Grammar → List (List (ℕ × ℕ)) → List (List ℕ) → Type 0
AreSkipNumbers g distinct rows = (k : ℕ) → k < length g.skips → AreNumbersOf distinct (skip_of g k).automaton.classes (slice_index_or rows k [])
