-- Laws over grammars and their trees.
use Rattle.std.specs.Prelude.{◌≡◌, ◌≢◌, ℕ, ◌<◌, List, [], ◌∷◌, length}
use Rattle.xs_gram.specs.Grammar.{Grammar, items, slots, IsSkipWord, normal_word}
use Rattle.xs_gram.specs.Derivations.{Derivation, Fits, yield, normal}
use Rattle.xs_gram.specs.Common.{Common, TreeFits, strip, print}
use Rattle.xs_gram.specs.Languages.{HasTree}

-- P holds of each number
abbrev pub Every : (ℕ → Type 0) → List ℕ → Type 0
Every P [] = Unit {0}
Every P (n ∷ ns) = P n × Every P ns

-- no number stands twice
abbrev pub IsDistinct : List ℕ → Type 0
IsDistinct [] = Unit {0}
IsDistinct (n ∷ ns) = Every (λ m. m ≢ n) ns × IsDistinct ns

-- the numbers from 0 on, each once
pub record IsNumbered (ns : List ℕ) : Type 0 where
  pub below : Every (λ n. n < length ns) ns
  pub once : IsDistinct ns

-- the slots of each rule are the numbers from 0 on, each once
abbrev pub HasNumberedSlots : Grammar → Type 0
HasNumberedSlots g = (p : ℕ) → IsNumbered (slots (items g p))

-- each ignorable matches its normal spelling
abbrev pub HasNormals : Grammar → Type 0
HasNormals g = (k : ℕ) → IsSkipWord g k (normal_word g k)

-- what is printed of a derivation's tree is its yield with each ignorable in its normal spelling
abbrev pub PrintsNormal : Type 0
PrintsNormal = (g : Grammar) (non : ℕ) (d : Derivation) → HasNumberedSlots g → Fits g non d → print g (strip g d) ≡ yield (normal g d)

-- the print of a tree that fits the start has that tree
abbrev pub PrintedHasTree : Type 0
PrintedHasTree = (g : Grammar) (t : Common) → HasNumberedSlots g → HasNormals g → TreeFits g g.start t → HasTree g (print g t) t
