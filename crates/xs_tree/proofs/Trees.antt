-- The trees of a list of parts, one for each part, and how they grow with it.
use Rattle.std.proofs.Common.{◌≡◌, inl, inr, ℕ, zero, suc, ◌+◌, ◌<◌, List, [], ◌∷◌, ◌++◌, length, All, slice_get, Some, refl, sym, ◌∙◌, ap, subst, length-append, add-one, take, arith}
use Rattle.std.proofs.lemmas.List.{get_or_append_left}
use Rattle.std.proofs.lemmas.List.Elements.{All-head, All-tail}
use Rattle.std.proofs.lemmas.Option.{get_or_from_slice_get, none-some, same_Some, slice_get_within}
use Rattle.std.proofs.Math.Seq.{get_or-append_seam, take-suc}
use Rattle.xs_tree.specs.Flat.{TreePart, Leaf, Node, IsAfter, AreRising, kids_at, tree_at, tree_of, trees_after, trees_of}
use Rattle.xs_gram.specs.Common.{Common, word, made, kid}
use Rattle.xs_class.proofs.Lists.{get_push}

-- a part more is a tree more
pub trees_after_push : (trees : List Common) (parts : List TreePart) (part : TreePart) → trees_after trees (parts ++ part ∷ []) ≡ trees_after trees parts ++ tree_of (trees_after trees parts) part ∷ []
trees_after_push trees [] part = refl
trees_after_push trees (p ∷ parts) part = trees_after_push (trees ++ tree_of trees p ∷ []) parts part

pub trees_push : (parts : List TreePart) (part : TreePart) → trees_of (parts ++ part ∷ []) ≡ trees_of parts ++ tree_of (trees_of parts) part ∷ []
trees_push parts part = trees_after_push [] parts part

-- a last part that stands after its children keeps the order
pub rising_push : (parts : List TreePart) (part : TreePart) → AreRising parts → IsAfter part (length parts) → AreRising (parts ++ part ∷ [])
rising_push parts part rising after i other is =
    elim (get_push parts part other i is) [
      | inl before ↦ rising i other before
      | inr last ↦ subst (λ n. IsAfter other n) (sym last.0) (subst (λ p. IsAfter p (length parts)) last.1 after)
    ]

pub rising_none : AreRising []
rising_none i part is = absurd (none-some part is)

-- a tree for each part
length-trees_after : (trees : List Common) (parts : List TreePart) → length (trees_after trees parts) ≡ length trees + length parts
length-trees_after trees [] = omega arith
length-trees_after trees (part ∷ parts) =
    let later = length-trees_after (trees ++ tree_of trees part ∷ []) parts in
    let more = length-append trees (tree_of trees part ∷ []) in
    omega (arith, later, more)

pub length-trees : (parts : List TreePart) → length (trees_of parts) ≡ length parts
length-trees parts = omega (arith, length-trees_after [] parts)

-- the trees of one part more of a list
pub trees_step : (parts : List TreePart) (i : ℕ) (part : TreePart) → slice_get parts i ≡ Some part → trees_of (take (i + 1) parts) ≡ trees_of (take i parts) ++ tree_of (trees_of (take i parts)) part ∷ []
trees_step parts i part is =
    let read = get_or_from_slice_get parts i part part is in
    let one : take (i + 1) parts ≡ take i parts ++ part ∷ [] = ap (λ n. take n parts) (add-one i) ∙ take-suc parts i part (slice_get_within parts i part is) ∙ ap (λ p. take i parts ++ p ∷ []) read in
    ap trees_of one ∙ trees_push (take i parts) part

-- the children of part i stand below the length of a list that has that many
pub part_ready : (parts : List TreePart) (numbers : List ℕ) (i : ℕ) (part : TreePart) → AreRising parts → slice_get parts i ≡ Some part → length numbers ≡ i → IsAfter part (length numbers)
part_ready parts numbers i part rising is long = subst (λ n. IsAfter part n) (sym long) (rising i part is)

-- trees stay where they are
pub tree_stays : (trees : List Common) (parts : List TreePart) (k : ℕ) → k < length trees → tree_at (trees_after trees parts) k ≡ tree_at trees k
tree_stays trees [] k lt = refl
tree_stays trees (part ∷ parts) k lt =
    let more = trees ++ tree_of trees part ∷ [] in
    let long = length-append trees (tree_of trees part ∷ []) in
    tree_stays more parts k (omega (arith, long)) ∙ get_or_append_left trees (tree_of trees part ∷ []) (word []) k lt

-- equal trees at the children's places make equal children
pub kids_same : (trees others : List Common) (kids : List ℕ) (n : ℕ) → ((k : ℕ) → k < n → tree_at trees k ≡ tree_at others k) → All (λ k. k < n) kids → kids_at trees kids ≡ kids_at others kids
kids_same trees others [] n same below = refl
kids_same trees others (k ∷ ks) n same below =
    let first = same k (All-head (λ j. j < n) k ks below) in
    let later = kids_same trees others ks n same (All-tail (λ j. j < n) k ks below) in
    ap (λ t. kid t (kids_at trees ks)) first ∙ ap (kid (tree_at others k)) later

tree_same : (trees others : List Common) (part : TreePart) (n : ℕ) → ((k : ℕ) → k < n → tree_at trees k ≡ tree_at others k) → IsAfter part n → tree_of trees part ≡ tree_of others part
tree_same trees others (Leaf w) n same after = refl
tree_same trees others (Node production kids) n same after = ap (made production) (kids_same trees others kids n same after)

tree_is_after : (trees : List Common) (parts : List TreePart) (i : ℕ) (part : TreePart) → slice_get parts i ≡ Some part → ((k : ℕ) (other : TreePart) → slice_get parts k ≡ Some other → IsAfter other (length trees + k)) → tree_at (trees_after trees parts) (length trees + i) ≡ tree_of (trees_after trees parts) part
tree_is_after trees [] i part is after = absurd (none-some part is)
tree_is_after trees (p ∷ parts) zero part is after =
    let more = trees ++ tree_of trees p ∷ [] in
    let long = length-append trees (tree_of trees p ∷ []) in
    let all = trees_after more parts in
    let stays : (k : ℕ) → k < length trees → tree_at trees k ≡ tree_at all k = λ k lt. sym (tree_stays more parts k (omega (arith, long)) ∙ get_or_append_left trees (tree_of trees p ∷ []) (word []) k lt) in
    let place : length trees + 0 ≡ length trees = omega arith in
    let here : IsAfter p (length trees) = subst (λ n. IsAfter p n) place (after 0 p refl) in
    ap (tree_at all) place ∙ tree_stays more parts (length trees) (omega (arith, long)) ∙ get_or-append_seam trees (tree_of trees p) [] (word []) ∙ tree_same trees all p (length trees) stays here ∙ ap (tree_of all) (same_Some p part is)
tree_is_after trees (p ∷ parts) (suc i) part is after =
    let more = trees ++ tree_of trees p ∷ [] in
    let long : length more ≡ suc (length trees) = length-append trees (tree_of trees p ∷ []) ∙ add-one (length trees) in
    let place : (k : ℕ) → length trees + suc k ≡ length more + k = λ k. omega (arith, long) in
    let later = tree_is_after more parts i part is (λ k other found. subst (λ n. IsAfter other n) (place k) (after (suc k) other found)) in
    ap (tree_at (trees_after more parts)) (place i) ∙ later

-- the tree of a part is made of those of its children
pub tree_is : (parts : List TreePart) (i : ℕ) (part : TreePart) → AreRising parts → slice_get parts i ≡ Some part → tree_at (trees_of parts) i ≡ tree_of (trees_of parts) part
tree_is parts i part rising is =
    let from : (k : ℕ) → k ≡ 0 + k = λ k. omega arith in
    ap (tree_at (trees_of parts)) (from i) ∙ tree_is_after [] parts i part is (λ k other found. subst (λ n. IsAfter other n) (from k) (rising k other found))

-- the trees of a list that goes on
pub trees_onward : (trees : List Common) (parts more : List TreePart) → trees_after trees (parts ++ more) ≡ trees_after (trees_after trees parts) more
trees_onward trees [] more = refl
trees_onward trees (part ∷ parts) more = trees_onward (trees ++ tree_of trees part ∷ []) parts more
