-- Lengths of what parts print, counted from the leaves upwards.
use Rattle.std.proofs.Common.{◌≡◌, ℕ, suc, ◌+◌, ◌<◌, ◌≤◌, List, [], ◌∷◌, ◌++◌, length, map, take, drop, All, get_or, Option, None, Some, slice_get, sym, ◌∙◌, ap, subst, add-one, drop-cons, length-append, arith}
use Rattle.std.proofs.lemmas.List.{get_or-map, map-append, length-map, length-take-le, take_all, drop_all}
use Rattle.std.proofs.lemmas.Option.{get_or_from_slice_get, slice_get-get_or, slice_get_within}
use Rattle.xs_gram.specs.declared.parts.GItem.{GItem}
use Rattle.xs_gram.specs.Grammar.{Grammar}
use Rattle.xs_gram.specs.Common.{Common, word, print, spelling}
use Rattle.xs_tree.specs.Flat.{TreePart, Leaf, Node, kids_of, production_of, tree_of, trees_of, word_of}
use Rattle.xs_tree.specs.Counts.{capped}
use Rattle.xs_tree.proofs.Trees.{length-trees, trees_step}
use Rattle.xs_text_out.specs.Printed.{AreLengths, item_word, kid_word, print_length, rule_items, slot_word}
use Rattle.xs_text_out.proofs.Words.{node_prints, spelling_first}

-- what stands in a list is one of its elements
pub element_holds : (P : ℕ → Type 0) (xs : List ℕ) (i x : ℕ) → All P xs → slice_get xs i ≡ Some x → P x
element_holds P xs i x all is = subst P (get_or_from_slice_get xs i x 0 is) (all i 0 (slice_get_within xs i x is))

-- the length of what a child prints stands at its place
pub kid_length : (g : Grammar) (trees : List Common) (lengths : List ℕ) (kid : ℕ) → kid < length lengths → AreLengths g trees lengths → get_or lengths kid 0 ≡ capped (length (kid_word g trees (Some kid)))
kid_length g trees lengths kid lt are =
    let there : kid < length trees = subst (λ n. kid < n) (ap length are ∙ length-map trees (print_length g)) lt in
    ap (λ l. get_or l kid 0) are ∙ get_or-map (print_length g) trees kid (word []) 0 there

pub slot_none : (g : Grammar) (trees : List Common) (kids : List ℕ) (slot : ℕ) → None ≡ slice_get kids slot → 0 ≡ capped (length (slot_word g trees kids slot))
slot_none g trees kids slot is = ap (λ o. capped (length (kid_word g trees o))) is

pub slot_counted : (g : Grammar) (trees : List Common) (kids lengths : List ℕ) (slot kid number : ℕ) → Some kid ≡ slice_get kids slot → All (λ k. k < length lengths) kids → number ≡ get_or lengths kid 0 → AreLengths g trees lengths → number ≡ capped (length (slot_word g trees kids slot))
slot_counted g trees kids lengths slot kid number is below read are =
    let lt : kid < length lengths = element_holds (λ k. k < length lengths) kids slot kid below (sym is) in
    read ∙ kid_length g trees lengths kid lt are ∙ ap (λ o. capped (length (kid_word g trees o))) is

capped_step : (count a rest whole number next : ℕ) → number ≡ capped a → next ≡ capped (count + number) → capped (count + (a + rest)) ≡ whole → capped (next + rest) ≡ whole
capped_step count a rest whole number next counted is so_far = omega arith

-- one more item is counted
pub items_step : (g : Grammar) (at : ℕ → List ℕ) (is : List GItem) (i : ℕ) (item : GItem) (count number next whole : ℕ) → i < length is → item ≡ get_or is i item → number ≡ capped (length (item_word g item at)) → next ≡ capped (count + number) → capped (count + length (spelling g (drop i is) at)) ≡ whole → capped (next + length (spelling g (drop (i + 1) is) at)) ≡ whole
items_step g at is i item count number next whole lt read counted more so_far =
    let rest = spelling g (drop (suc i) is) at in
    let split : length (spelling g (drop i is) at) ≡ length (item_word g item at) + length rest =
    ap (λ l. length (spelling g l at)) (drop-cons is i item lt ∙ ap (λ (x : GItem). x ∷ drop (suc i) is) (sym read)) ∙ ap length (spelling_first g item (drop (suc i) is) at) ∙ length-append (item_word g item at) rest in
    ap (λ n. capped (next + length (spelling g (drop n is) at))) (add-one i)
    ∙ capped_step count (length (item_word g item at)) (length rest) whole number next counted more (ap (λ n. capped (count + n)) (sym split) ∙ so_far)

-- where no item is left the count is the whole
pub items_end : (g : Grammar) (at : ℕ → List ℕ) (is : List GItem) (i count whole : ℕ) → length is ≤ i → capped count ≡ count → capped (count + length (spelling g (drop i is) at)) ≡ whole → count ≡ whole
items_end g at is i count whole le small so_far =
    let none : length (spelling g (drop i is) at) ≡ 0 = ap (λ l. length (spelling g l at)) (drop_all i is le) in
    omega arith

-- a leaf prints its word
pub leaf_counted : (g : Grammar) (trees : List Common) (o : Option TreePart) (found : TreePart) (w : List ℕ) → Some w ≡ word_of o → o ≡ Some found → print g (tree_of trees found) ≡ w
leaf_counted g trees o (Leaf u) w is found =
    let same : Some w ≡ Some u = is ∙ ap word_of found in
    cc
leaf_counted g trees o (Node p kids) w is found =
    let same : Some w ≡ None = is ∙ ap word_of found in
    cc

-- a node prints what its items print
pub node_counted : (g : Grammar) (trees : List Common) (o : Option TreePart) (found : TreePart) → None ≡ word_of o → o ≡ Some found → spelling g (rule_items g (production_of o)) (slot_word g trees (kids_of o)) ≡ print g (tree_of trees found)
node_counted g trees o (Leaf u) is found =
    let same : None ≡ Some u = is ∙ ap word_of found in
    cc
node_counted g trees o (Node p kids) is found =
    ap (λ x. spelling g (rule_items g (production_of x)) (slot_word g trees (kids_of x))) found ∙ sym (node_prints g trees p kids)

-- a length for each of the parts so far
pub lengths_long : (g : Grammar) (lengths : List ℕ) (parts : List TreePart) (i : ℕ) → i < length parts → AreLengths g (trees_of (take i parts)) lengths → length lengths ≡ i
lengths_long g lengths parts i lt are =
    ap length are ∙ length-map (trees_of (take i parts)) (print_length g) ∙ length-trees (take i parts) ∙ length-take-le i parts (omega arith)

-- one more part is counted
pub lengths_step : (g : Grammar) (lengths more : List ℕ) (parts : List TreePart) (i number : ℕ) → i < length parts → AreLengths g (trees_of (take i parts)) lengths → ((found : TreePart) → slice_get parts i ≡ Some found → number ≡ print_length g (tree_of (trees_of (take i parts)) found)) → more ≡ lengths ++ number ∷ [] → AreLengths g (trees_of (take (i + 1) parts)) more
lengths_step g lengths more parts i number lt are counted is =
    let before = trees_of (take i parts) in
    let found = get_or parts i (Leaf []) in
    let there : slice_get parts i ≡ Some found = slice_get-get_or parts i (Leaf []) lt in
    let next : trees_of (take (i + 1) parts) ≡ before ++ tree_of before found ∷ [] = trees_step parts i found there in
    is ∙ ap (λ l. l ++ number ∷ []) are ∙ ap (λ n. map (print_length g) before ++ n ∷ []) (counted found there) ∙ sym (map-append (print_length g) before (tree_of before found ∷ [])) ∙ ap (map (print_length g)) (sym next)

pub lengths_end : (g : Grammar) (lengths : List ℕ) (parts : List TreePart) (i : ℕ) → length parts ≤ i → AreLengths g (trees_of (take i parts)) lengths → AreLengths g (trees_of parts) lengths
lengths_end g lengths parts i le are = are ∙ ap (λ l. map (print_length g) (trees_of l)) (take_all i parts le)

-- a length for each part
pub lengths_all : (g : Grammar) (parts : List TreePart) (lengths : List ℕ) → AreLengths g (trees_of parts) lengths → length lengths ≡ length parts
lengths_all g parts lengths are = ap length are ∙ length-map (trees_of parts) (print_length g) ∙ length-trees parts
