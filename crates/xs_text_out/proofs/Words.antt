-- What a node of a flat tree prints is what its items print, by what its children print.
use Rattle.std.proofs.Common.{◌≡◌, ℕ, zero, suc, ◌≤◌, List, [], ◌∷◌, ◌++◌, length, Some, slice_get, refl, sym, ◌∙◌, ap}
use Rattle.std.proofs.lemmas.List.{get_or_past}
use Rattle.xs_gram.specs.declared.parts.RulePart.{RulePart}
use Rattle.xs_gram.specs.declared.parts.GItem.{GItem}
use Rattle.xs_gram.specs.declared.parts.GItem.TheVariants.{Fixed, Term, Non, Skip}
use Rattle.xs_gram.specs.Grammar.{Grammar, items, no_rule}
use Rattle.xs_gram.specs.Common.{Common, print, print_kids, spelling, word_at}
use Rattle.xs_tree.specs.Flat.{TreePart, Node, Flat, IsFlat, common_at, kids_at, tree_of, trees_of}
use Rattle.xs_tree.proofs.Trees.{tree_is}
use Rattle.xs_text_out.specs.Printed.{item_word, slot_word}

-- a rule that is not there has no items
pub no_items : (g : Grammar) (p : ℕ) → length g.rules ≤ p → items g p ≡ []
no_items g p le = ap (λ (r : RulePart). r.items) (get_or_past g.rules p no_rule le)

-- the children's words stand at their slots
slot_is : (g : Grammar) (trees : List Common) (kids : List ℕ) (slot : ℕ) → word_at (print_kids g (kids_at trees kids)) slot ≡ slot_word g trees kids slot
slot_is g trees [] slot = refl
slot_is g trees (k ∷ ks) zero = refl
slot_is g trees (k ∷ ks) (suc slot) = slot_is g trees ks slot

-- an item first, then the others
pub spelling_first : (g : Grammar) (item : GItem) (is : List GItem) (at : ℕ → List ℕ) → spelling g (item ∷ is) at ≡ item_word g item at ++ spelling g is at
spelling_first g (Fixed f) is at = refl
spelling_first g (Term t s) is at = refl
spelling_first g (Non n s) is at = refl
spelling_first g (Skip k) is at = refl

item_same : (g : Grammar) (item : GItem) (at to : ℕ → List ℕ) → ((s : ℕ) → at s ≡ to s) → item_word g item at ≡ item_word g item to
item_same g (Fixed f) at to same = refl
item_same g (Term t s) at to same = same s
item_same g (Non n s) at to same = same s
item_same g (Skip k) at to same = refl

spelling_same : (g : Grammar) (is : List GItem) (at to : ℕ → List ℕ) → ((s : ℕ) → at s ≡ to s) → spelling g is at ≡ spelling g is to
spelling_same g [] at to same = refl
spelling_same g (item ∷ is) at to same =
    spelling_first g item is at ∙ ap (λ w. w ++ spelling g is at) (item_same g item at to same) ∙ ap (λ w. item_word g item to ++ w) (spelling_same g is at to same) ∙ sym (spelling_first g item is to)

pub node_prints : (g : Grammar) (trees : List Common) (production : ℕ) (kids : List ℕ) → print g (tree_of trees (Node production kids)) ≡ spelling g (items g production) (slot_word g trees kids)
node_prints g trees production kids = spelling_same g (items g production) (word_at (print_kids g (kids_at trees kids))) (slot_word g trees kids) (slot_is g trees kids)

-- what a part of a flat tree prints
pub part_prints : (g : Grammar) (f : Flat) (part : ℕ) (found : TreePart) → IsFlat f → slice_get f.parts part ≡ Some found → print g (common_at f part) ≡ print g (tree_of (trees_of f.parts) found)
part_prints g f part found flat is = ap (print g) (tree_is f.parts part found flat.rising is)
