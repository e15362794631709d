-- How many parts of an unfolding are written.
use Rattle.std.specs.Prelude.{◌≡◌, ℕ, suc, ◌+◌, ◌-◌, ◌<◌, List, [], length, None, Some, slice_index_or}
use Rattle.std.specs.declared.option.Option.{Option}
use Rattle.xs_gram.specs.declared.parts.GItem.{GItem}
use Rattle.xs_gram.specs.Grammar.{Grammar}
use Rattle.xs_gram.specs.Derivations.{Parts, done, fixed, leaf, skip, sub}
use Rattle.xs_forest.specs.declared.row.Alt.{Alt}
use Rattle.xs_tree.specs.Counts.{capped}
use Rattle.xs_forest_laws.specs.declared.span.What.{What}
use Rattle.xs_forest_laws.specs.declared.span.What.TheVariants.{Whole, Front}
use Rattle.xs_forest_laws.specs.Forest.{Forest, Unfolding, word_part, item_of, read}
use Rattle.xs_forest_laws.specs.First.{IsFirst}

-- how many parts are spelt: those that are no fixed words, down to words
abbrev pub spelt_count : Parts → ℕ
spelt_count done = 0
spelt_count (fixed u ps) = spelt_count ps
spelt_count (leaf u ps) = suc (spelt_count ps)
spelt_count (skip u ps) = suc (spelt_count ps)
spelt_count (sub q qs ps) = suc (spelt_count qs + spelt_count ps)

-- how many of them the word of an item is
abbrev pub word_count : GItem → ℕ
word_count item = spelt_count (word_part item [])

-- the size of a child's row, and none where there is no child
abbrev pub size_at : List ℕ → Option ℕ → ℕ
size_at sizes None = 0
size_at sizes (Some r) = slice_index_or sizes r 0

-- how many parts a front's last item is: those of the right child, and the word where there is none
abbrev pub item_count : GItem → List ℕ → Option ℕ → ℕ
item_count item sizes None = word_count item
item_count item sizes (Some r) = size_at sizes (Some r)

-- how many parts an alternative has after those of its left child
abbrev pub last_count : Grammar → List ℕ → What → Alt → ℕ
last_count g sizes (Whole n) a = 1
last_count g sizes (Front p d) a = item_count (item_of g p (d - 1)) sizes a.right

-- the row's unfolding by first alternatives has that many parts, as far as 2^64 less 1
abbrev pub IsSize : Grammar → List ℕ → Forest → ℕ → ℕ → Type 0
IsSize g w f r n = (u : Unfolding) → IsFirst f (Some r) u → n ≡ capped (spelt_count (read g w f (Some r) u))

-- each of the rows that have a size has that of its unfolding
abbrev pub AreSizes : Grammar → List ℕ → Forest → List ℕ → Type 0
AreSizes g w f sizes = (r : ℕ) → r < length sizes → IsSize g w f r (slice_index_or sizes r 0)
