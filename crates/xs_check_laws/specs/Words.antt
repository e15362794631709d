-- The words of a derivation's parts, split as its rule's items are.
use Rattle.std.specs.Prelude.{ℕ, List, [], ◌∷◌, ◌++◌, true, false}
use Rattle.xs_gram.specs.declared.parts.GItem.{GItem}
use Rattle.xs_gram.specs.declared.parts.GItem.TheVariants.{Fixed, Term, Non, Skip}
use Rattle.xs_gram.specs.Grammar.{Grammar, items}
use Rattle.xs_gram.specs.Derivations.{Parts, done, fixed, leaf, skip, sub, parts_yield, Derivation}
use Rattle.xs_gram.specs.Fences.{is_fence}

-- the word of each part, in order: that of an inner derivation is its yield
abbrev pub part_words : Parts → List (List ℕ)
part_words done = []
part_words (fixed u ps) = u ∷ part_words ps
part_words (leaf u ps) = u ∷ part_words ps
part_words (skip u ps) = u ∷ part_words ps
part_words (sub q qs ps) = parts_yield qs ∷ part_words ps

-- the word, unless it is empty, and then the words
abbrev pub after_own : List ℕ → List (List ℕ) → List (List ℕ)
after_own [] ws = ws
after_own (s ∷ w) ws = (s ∷ w) ∷ ws

-- the words into which a fixed word is split, and then the words
abbrev pub split_own : List (ℕ × ℕ) → List ℕ → List ℕ → List (List ℕ) → List (List ℕ)
split_own fs before [] ws = after_own before ws
split_own fs before (s ∷ w) ws = elim (is_fence fs s) [
  | true ↦ after_own before ((s ∷ []) ∷ split_own fs [] w ws)
  | false ↦ split_own fs (before ++ s ∷ []) w ws
]

-- the words of the spread items, from those of the items
abbrev pub split_words : List (ℕ × ℕ) → List GItem → List (List ℕ) → List (List ℕ)
split_words fs [] ws = []
split_words fs (i ∷ is) [] = []
split_words fs (Fixed w ∷ is) (u ∷ ws) = split_own fs [] w (split_words fs is ws)
split_words fs (Term t s ∷ is) (u ∷ ws) = u ∷ split_words fs is ws
split_words fs (Non m s ∷ is) (u ∷ ws) = u ∷ split_words fs is ws
split_words fs (Skip k ∷ is) (u ∷ ws) = u ∷ split_words fs is ws

-- the word of each spread item of a derivation's rule, in order
abbrev pub spread_words : Grammar → Derivation → List (List ℕ)
spread_words g d = split_words g.fences (items g d.rule) (part_words d.parts)
