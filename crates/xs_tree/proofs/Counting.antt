-- Counts of parts, made from those of their children.
use Rattle.std.proofs.Common.{◌≡◌, ℕ, suc, ◌+◌, ◌<◌, ◌≤◌, List, [], ◌∷◌, ◌++◌, length, map, take, drop, All, get_or, slice_get, Some, refl, sym, ◌∙◌, ap, subst, add-one, drop-cons, arith}
use Rattle.std.proofs.lemmas.List.{get_or-map, map-append, length-map, length-take-le, take_all, drop_all}
use Rattle.std.proofs.lemmas.List.Elements.{All-head, All-tail}
use Rattle.xs_gram.specs.Common.{Common, word, kids_count, parts_count}
use Rattle.xs_tree.specs.Flat.{TreePart, Node, Flat, IsFlat, tree_at, kids_at, tree_of, trees_of, common_of}
use Rattle.xs_tree.proofs.Trees.{trees_step, length-trees}
use Rattle.xs_tree.specs.Counts.{capped, capped_count, picked_sum}

capped_sum : (n a s k : ℕ) → capped ((n + capped a) + s) ≡ capped ((n + capped a) + k) → capped (n + (capped a + s)) ≡ capped (n + (a + k))
capped_sum n a s k same = omega arith

-- the children's counts add up to that of the children
pub picked_counts : (trees : List Common) (ks : List ℕ) (n : ℕ) → All (λ k. k < length trees) ks → capped (n + picked_sum (map capped_count trees) ks) ≡ capped (n + kids_count (kids_at trees ks))
picked_counts trees [] n below = refl
picked_counts trees (k ∷ ks) n below =
    let here = get_or-map capped_count trees k (word []) 0 (All-head (λ j. j < length trees) k ks below) in
    let later = picked_counts trees ks (n + capped_count (tree_at trees k)) (All-tail (λ j. j < length trees) k ks below) in
    rw here (capped_sum n (parts_count (tree_at trees k)) (picked_sum (map capped_count trees) ks) (kids_count (kids_at trees ks)) later)

capped_step : (count number rest whole next : ℕ) → next ≡ capped (count + number) → capped (count + (number + rest)) ≡ whole → capped (next + rest) ≡ whole
capped_step count number rest whole next is so_far = omega arith

-- one more child is counted
pub picked_step : (count whole : ℕ) (numbers kids : List ℕ) (i next : ℕ) → i < length kids → next ≡ capped (count + get_or numbers (get_or kids i 0) 0) → capped (count + picked_sum numbers (drop i kids)) ≡ whole → capped (next + picked_sum numbers (drop (i + 1) kids)) ≡ whole
picked_step count whole numbers kids i next lt counted so_far =
    let rest = picked_sum numbers (drop (suc i) kids) in
    let split : picked_sum numbers (drop i kids) ≡ get_or numbers (get_or kids i 0) 0 + rest = ap (picked_sum numbers) (drop-cons kids i 0 lt) in
    let now = capped_step count (get_or numbers (get_or kids i 0) 0) rest whole next counted (ap (λ s. capped (count + s)) (sym split) ∙ so_far) in
    ap (λ j. capped (next + picked_sum numbers (drop j kids))) (add-one i) ∙ now

-- where none is left the count is the whole
pub picked_end : (count whole : ℕ) (numbers kids : List ℕ) (i : ℕ) → length kids ≤ i → capped count ≡ count → capped (count + picked_sum numbers (drop i kids)) ≡ capped whole → count ≡ capped whole
picked_end count whole numbers kids i le small so_far =
    let none : picked_sum numbers (drop i kids) ≡ 0 = ap (picked_sum numbers) (drop_all i kids le) in
    omega (arith, none)

pub capped_small : (n next : ℕ) → next ≡ capped n → capped next ≡ next
capped_small n next is = omega arith

pub node_counted : (trees : List Common) (counts kids : List ℕ) (production count : ℕ) → count ≡ capped (1 + picked_sum counts kids) → All (λ k. k < length counts) kids → counts ≡ map capped_count trees → count ≡ capped_count (tree_of trees (Node production kids))
node_counted trees counts kids production count counted after counts_are =
    let below : All (λ k. k < length trees) kids = subst (λ n. All (λ k. k < n) kids) (ap length counts_are ∙ length-map trees capped_count) after in
    let sums = picked_counts trees kids 1 below in
    let one : 1 + kids_count (kids_at trees kids) ≡ suc (kids_count (kids_at trees kids)) = omega arith in
    counted ∙ ap (λ l. capped (1 + picked_sum l kids)) counts_are ∙ sums ∙ ap capped one

-- a count for each of the parts so far
pub counts_long : (counts : List ℕ) (parts : List TreePart) (i : ℕ) → i < length parts → counts ≡ map capped_count (trees_of (take i parts)) → length counts ≡ i
counts_long counts parts i lt is =
    ap length is ∙ length-map (trees_of (take i parts)) capped_count ∙ length-trees (take i parts) ∙ length-take-le i parts (omega arith)

-- the count of one of all parts
pub counted_root : (counts : List ℕ) (parts : List TreePart) (i root : ℕ) → length parts ≤ i → root < length parts → counts ≡ map capped_count (trees_of (take i parts)) → (root < length counts) × (get_or counts root 0 ≡ capped_count (tree_at (trees_of parts) root))
counted_root counts parts i root le lt is =
    let all : counts ≡ map capped_count (trees_of parts) = is ∙ ap (λ l. map capped_count (trees_of l)) (take_all i parts le) in
    let long : length counts ≡ length parts = ap length all ∙ length-map (trees_of parts) capped_count ∙ length-trees parts in
    let there : root < length (trees_of parts) = omega (arith, length-trees parts) in
    (omega arith, ap (λ l. get_or l root 0) all ∙ get_or-map capped_count (trees_of parts) root (word []) 0 there)

-- the trees of some more parts begin with those of the parts
pub counts_step : (counts : List ℕ) (parts : List TreePart) (i : ℕ) (part : TreePart) (count : ℕ) → slice_get parts i ≡ Some part → counts ≡ map capped_count (trees_of (take i parts)) → count ≡ capped_count (tree_of (trees_of (take i parts)) part) → counts ++ count ∷ [] ≡ map capped_count (trees_of (take (i + 1) parts))
counts_step counts parts i part count is so_far counted =
    let before = trees_of (take i parts) in
    let next : trees_of (take (i + 1) parts) ≡ before ++ tree_of before part ∷ [] = trees_step parts i part is in
    ap (λ l. l ++ count ∷ []) so_far ∙ ap (λ n. map capped_count before ++ n ∷ []) counted ∙ sym (map-append capped_count before (tree_of before part ∷ [])) ∙ ap (map capped_count) (sym next)

-- the count of the root
pub counted_end : (f : Flat) (counts : List ℕ) (parts : List TreePart) (i root : ℕ) → IsFlat f → parts ≡ f.parts → root ≡ f.root → length parts ≤ i → counts ≡ map capped_count (trees_of (take i parts)) → (root < length counts) × (get_or counts root 0 ≡ capped_count (common_of f))
counted_end f counts parts i root flat same is le so_far =
    let there : root < length parts = subst (λ (ps : List TreePart). root < length ps) (sym same) (subst (λ r. r < length f.parts) (sym is) flat.root) in
    let end = counted_root counts parts i root le there so_far in
    (end.0, end.1 ∙ ap (λ (ps : List TreePart). capped_count (tree_at (trees_of ps) root)) same ∙ ap (λ r. capped_count (tree_at (trees_of f.parts) r)) is)
