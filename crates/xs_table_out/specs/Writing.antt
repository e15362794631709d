-- What a writer will have written.
use Rattle.std.specs.Prelude.{◌≡◌, ℕ, List, ◌++◌}

-- all will be what it was to be with a word before the rest
abbrev pub Writes : (List ℕ → List ℕ) → (List ℕ → List ℕ) → List ℕ → Type 0
Writes old new word = (rest : List ℕ) → new rest ≡ old (word ++ rest)
