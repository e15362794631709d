-- What a part of a flat tree prints, by what its children print.
use Rattle.std.specs.Prelude.{◌≡◌, ℕ, List, [], length, map, Option, None, Some, slice_get}
use Rattle.xs_gram.specs.declared.parts.GItem.{GItem}
use Rattle.xs_gram.specs.declared.parts.GItem.TheVariants.{Fixed, Term, Non, Skip}
use Rattle.xs_gram.specs.Grammar.{Grammar, items, normal_word}
use Rattle.xs_gram.specs.Building.{NamesAreThere}
use Rattle.xs_gram.specs.Common.{Common, print}
use Rattle.xs_tree.specs.Counts.{capped}
use Rattle.xs_tree.specs.Flat.{tree_at}

-- the items of a production's rule, and none where there is no production
abbrev pub rule_items : Grammar → Option ℕ → List GItem
rule_items g None = []
rule_items g (Some p) = items g p

-- what the items name is there
abbrev pub AreThere : Grammar → List GItem → Type 0
AreThere g is = (n : ℕ) (item : GItem) → slice_get is n ≡ Some item → NamesAreThere g item

-- what a child prints, and nothing where there is none
abbrev pub kid_word : Grammar → List Common → Option ℕ → List ℕ
kid_word g trees None = []
kid_word g trees (Some k) = print g (tree_at trees k)

-- what is printed at a slot of a node with these children
abbrev pub slot_word : Grammar → List Common → List ℕ → ℕ → List ℕ
slot_word g trees kids slot = kid_word g trees (slice_get kids slot)

-- what an item prints, where what stands at the slots is given
abbrev pub item_word : Grammar → GItem → (ℕ → List ℕ) → List ℕ
item_word g (Fixed f) at = f
item_word g (Term t s) at = at s
item_word g (Non n s) at = at s
item_word g (Skip k) at = normal_word g k

-- the length of what a tree prints, capped
abbrev pub print_length : Grammar → Common → ℕ
print_length g tree = capped (length (print g tree))

-- the numbers are the lengths of what the trees print, capped
abbrev pub AreLengths : Grammar → List Common → List ℕ → Type 0
AreLengths g trees lengths = lengths ≡ map (print_length g) trees
