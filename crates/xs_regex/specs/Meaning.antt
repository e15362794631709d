-- The regexes that a tree of a pattern stands for.
use Rattle.std.specs.Prelude.{◌≡◌, ◌↔◌, ◌⊎◌, ℕ, ◌≤◌, List, [], ◌∷◌, IsTrue, IsSomeAnd}
use Rattle.std.specs.Borrow.{Bor}
use Rattle.ucd_sets.specs.Sets.{in_set}
use Rattle.xs_class.specs.Classes.{Has, IsClass}
use Rattle.xs_class.specs.Named.{set_named}
use Rattle.xs_class.specs.Tables.{IsChar}
use Rattle.xs_regex.specs.declared.regex.Regex.{Regex}
use Rattle.xs_regex.specs.declared.regex.Regex.TheVariants.{Empty, Set, Then', Or', Star', Times'}
use Rattle.xs_regex.specs.declared.forms.Join.{Join}
use Rattle.xs_regex.specs.declared.forms.Join.TheVariants.{Turn, Choice}
use Rattle.xs_regex.specs.Characters.{Item, span, named, Sort, some_of, none_of}
use Rattle.xs_regex.specs.Pattern.{Tree, nothing, class, both, either, any, times, IsReading}

-- the character is of the item, of one of the items, of the set
abbrev pub IsOfItem : Item → ℕ → Type 0
IsOfItem (span low high) s = (low ≤ s) × (s ≤ high)
IsOfItem (named name) s = IsSomeAnd (set_named name) (λ set. (s ≤ 0x10FFFF) × IsTrue (in_set set s))

abbrev pub IsOfItems : List Item → ℕ → Type 0
IsOfItems [] s = ⊥
IsOfItems (item ∷ items) s = IsOfItem item s ⊎ IsOfItems items s

abbrev pub IsOfSort : Sort → ℕ → Type 0
IsOfSort (some_of items) s = IsOfItems items s
IsOfSort (none_of items) s = ¬ (IsOfItems items s)

-- the class has exactly the characters of the set that are characters of XML, in sorted ranges
abbrev pub IsClassOf : Sort → List (ℕ × ℕ) → Type 0
IsClassOf sort ranges = IsClass ranges × ((s : ℕ) → Has ranges s ↔ (IsChar s × IsOfSort sort s))

-- the regex has the form of the tree, with these classes
abbrev pub Means : Tree → Regex → Type 0
Means nothing Empty = Unit {0}
Means (class sort) (Set ranges) = IsClassOf sort ranges
Means (both t u) (Then' p a q b) = Means t a × Means u b
Means (either t u) (Or' p a q b) = Means t a × Means u b
Means (any t) (Star' p a) = Means t a
Means (times t least most) (Times' p a least_of most_of) = Means t a × (least ≡ least_of) × (most ≡ most_of)
Means t r = ⊥

-- the regexes have the forms of the trees, one by one
abbrev pub MeanEach : List Tree → List Regex → Type 0
MeanEach [] [] = Unit {0}
MeanEach (t ∷ ts) (r ∷ rs) = Means t r × MeanEach ts rs
MeanEach ts rs = ⊥

-- the tree of two that are joined
abbrev pub tree_of : Join → Tree → Tree → Tree
tree_of Turn = both
tree_of Choice = either

-- the trees and then the last, joined from the right
abbrev pub leaning : (Tree → Tree → Tree) → List Tree → Tree → Tree
leaning join [] last = last
leaning join (t ∷ ts) last = join t (leaning join ts last)

-- the pattern is read as the regex
abbrev pub IsPatternOf : List ℕ → Regex → Type 0
IsPatternOf pattern r = (t : Tree) × IsReading pattern t × Means t r

-- what was read and left is what the reader has
abbrev pub Reads : Tree × List ℕ → Regex × Bor (List ℕ) → Type 0
Reads a x = (a.1 ≡ x.1.now) × Means a.0 x.0
