-- Languages: derivations of words, trees of words, uniqueness, and the longest viable prefix.
use Rattle.std.specs.Prelude.{◌≡◌, ℕ, ◌≤◌, List, ◌++◌, length, take}
use Rattle.xs_gram.specs.Grammar.{Grammar}
use Rattle.xs_gram.specs.Derivations.{Derivation, Fits, yield}
use Rattle.xs_gram.specs.Common.{Common, strip}

-- the derivation is of the start and yields the word
abbrev pub Derives : Grammar → List ℕ → Derivation → Type 0
Derives g w d = Fits g g.start d × (yield d ≡ w)

-- the word has a derivation
abbrev pub InLang : Grammar → List ℕ → Type 0
InLang g w = (d : Derivation) × Derives g w d

-- the tree is that of a derivation of the word
abbrev pub HasTree : Grammar → List ℕ → Common → Type 0
HasTree g w t = (d : Derivation) × Derives g w d × (strip g d ≡ t)

-- each word has at most one derivation
abbrev pub IsUnique : Grammar → Type 0
IsUnique g = (w : List ℕ) (d e : Derivation) → Derives g w d → Derives g w e → d ≡ e

-- some word of the language begins so
abbrev pub IsFront : Grammar → List ℕ → Type 0
IsFront g u = (v : List ℕ) × InLang g (u ++ v)

-- k is the greatest number of leading symbols that begin some word of the language
abbrev pub IsViable : Grammar → List ℕ → ℕ → Type 0
IsViable g w k = (k ≤ length w) × IsFront g (take k w) × ((m : ℕ) → m ≤ length w → IsFront g (take m w) → m ≤ k)
