-- Kids at the slots of a rule: which are the children of a node, in the order of the slots.
use Rattle.std.proofs.Common.{◌≡◌, inl, inr, ℕ, zero, suc, ◌+◌, ◌<◌, List, [], ◌∷◌, ◌++◌, length, Some, sym, ◌∙◌, ap, arith, subst, drop, drop-cons, add-one, get_or-set_same, get_or-set_other, All, take, append-nil}
use Rattle.std.proofs.Math.ListN.{length-set}
use Rattle.std.proofs.Math.Seq.{get_or-append_seam}
use Rattle.std.specs.Prelude.{slice_index, slice_set}
use Rattle.std.proofs.lemmas.Bool.Decides.{eqb_tells}
use Rattle.std.proofs.lemmas.List.{take_all, drop_all}
use Rattle.std.proofs.lemmas.List.Elements.{All-from_get_or}
use Rattle.xs_gram.specs.declared.parts.GItem.{GItem}
use Rattle.xs_gram.specs.Grammar.{Grammar, slots}
use Rattle.xs_gram.specs.Derivations.{Parts, FitsItems}
use Rattle.xs_gram.specs.Common.{Common, word, kid, lookup, child_of, in_order, children, named}
use Rattle.xs_gram.specs.Laws.{IsNumbered}
use Rattle.xs_gram.proofs.Lookup.{length-keys}
use Rattle.xs_gram.proofs.Entries.{keys_are, lookup_same, lookup_other, found}
use Rattle.xs_tree.specs.Flat.{TreePart, tree_at, kids_at, tree_of, trees_of}
use Rattle.xs_tree.proofs.Longer.{longer_length}
use Rattle.xs_tree.proofs.Trees.{trees_onward, tree_stays, trees_push, length-trees}
use Rattle.xs_listing.specs.Making.{Extends, Fills}

-- what is written through a slice of a whole list
pub written_back : {X : Type 0} (xs ys : List X) (n : ℕ) → length xs ≡ n → length ys ≡ n → take n (xs ++ drop (length xs) ys) ≡ xs
written_back xs ys n ex ey =
    let none : drop (length xs) ys ≡ [] = drop_all (length xs) ys (omega arith) in
    rw (none, append-nil) (take_all n xs (omega arith))

-- trees stay where the list goes on
pub tree_more : (parts more : List TreePart) (v : ℕ) → v < length parts → tree_at (trees_of (parts ++ more)) v ≡ tree_at (trees_of parts) v
tree_more parts more v lt =
    let long = length-trees parts in
    ap (λ l. tree_at l v) (trees_onward [] parts more) ∙ tree_stays (trees_of parts) more v (omega arith)

-- the tree of a new last part
pub last_tree : (parts : List TreePart) (part : TreePart) → tree_at (trees_of (parts ++ part ∷ [])) (length parts) ≡ tree_of (trees_of parts) part
last_tree parts part =
    let e = ap (λ l. tree_at l (length parts)) (trees_push parts part) in
    e ∙ ap (tree_at (trees_of parts ++ tree_of (trees_of parts) part ∷ [])) (sym (length-trees parts)) ∙ get_or-append_seam (trees_of parts) (tree_of (trees_of parts) part) [] (word [])

pub tree_extends : (a b : List TreePart) (v : ℕ) → Extends a b → v < length a → tree_at (trees_of b) v ≡ tree_at (trees_of a) v
tree_extends a b v (xs, e) lt = ap (λ (l : List TreePart). tree_at (trees_of l) v) e ∙ tree_more a xs v lt

pub fills_more : (a b : List TreePart) (kids : List ℕ) (es : List (ℕ × Common)) → Extends a b → Fills a kids es → Fills b kids es
fills_more a b kids es ex fills s t e =
    let h = fills s t e in
    let le = longer_length a b ex in
    (h.0, omega (arith, h.1), tree_extends a b (slice_index kids s) ex h.1 ∙ h.2)

pub fills_none : (parts : List TreePart) (kids : List ℕ) → Fills parts kids []
fills_none parts kids s t e = cc

-- one more entry, whose tree is put at its slot
pub fills_put : (parts : List TreePart) (kids : List ℕ) (es : List (ℕ × Common)) (s v : ℕ) (t : Common) → Fills parts kids es → s < length kids → v < length parts → tree_at (trees_of parts) v ≡ t → Fills parts (slice_set kids s v) ((s, t) ∷ es)
fills_put parts kids es s v t fills lt there is r u e = elim (eqb_tells r s) [
  | inl (one, same) ↦
      let here : slice_index (slice_set kids s v) r ≡ v = ap (slice_index (slice_set kids s v)) same ∙ get_or-set_same kids s v 0 lt in
      let tree : t ≡ u = some_is t u (sym (lookup_same s t es) ∙ ap (λ k. lookup k ((s, t) ∷ es)) (sym same) ∙ e) in
      let long = length-set kids s v in
      (omega arith, omega arith, ap (tree_at (trees_of parts)) here ∙ is ∙ tree)
  | inr (two, ne) ↦
      let h = fills r u (sym (lookup_other s r t es ne) ∙ e) in
      let here : slice_index (slice_set kids s v) r ≡ slice_index kids r = get_or-set_other kids s r v 0 ne in
      let long = length-set kids s v in
      (omega (arith, h.0), omega (arith, h.1), ap (tree_at (trees_of parts)) here ∙ h.2)
]
  where
    some_is : (x y : Common) → Some x ≡ Some y → x ≡ y
    some_is x y e = cc

-- the kids from a slot on are the children from there on
ordered : (parts : List TreePart) (kids : List ℕ) (es : List (ℕ × Common)) (n slot : ℕ) → slot + n ≡ length kids → Fills parts kids es → ((s : ℕ) → s < length kids → (t : Common) × (lookup s es ≡ Some t)) → kids_at (trees_of parts) (drop slot kids) ≡ in_order n slot es
ordered parts kids es zero slot e fills all = ap (kids_at (trees_of parts)) (drop_all slot kids (omega arith))
ordered parts kids es (suc n) slot e fills all =
    let a = all slot (omega arith) in
    let h = fills slot a.0 a.1 in
    let here : tree_at (trees_of parts) (slice_index kids slot) ≡ child_of (lookup slot es) = h.2 ∙ ap child_of (sym a.1) in
    let later : kids_at (trees_of parts) (drop (suc slot) kids) ≡ in_order n (slot + 1) es = ordered parts kids es n (suc slot) (omega arith) fills all ∙ ap (λ s. in_order n s es) (sym (add-one slot)) in
    ap (kids_at (trees_of parts)) (drop-cons kids slot 0 h.0) ∙ ap (λ t. kid t (kids_at (trees_of parts) (drop (suc slot) kids))) here ∙ ap (kid (child_of (lookup slot es))) later

module _ (g : Grammar) (is : List GItem) (ps : Parts) (parts : List TreePart) (kids : List ℕ) (numbered : IsNumbered (slots is)) (fits : FitsItems g is ps) (long : length kids ≡ length (slots is)) (fills : Fills parts kids (named g is ps)) where
  as_long : length kids ≡ length (named g is ps)
  as_long = long ∙ ap length (sym (keys_are g is ps fits)) ∙ length-keys (named g is ps)

  all_found : (s : ℕ) → s < length kids → (t : Common) × (lookup s (named g is ps) ≡ Some t)
  all_found s lt =
      let e = as_long in
      found (named g is ps) (subst IsNumbered (sym (keys_are g is ps fits)) numbered) s (omega arith)

  -- all kids are parts, and their trees are the children
  pub kids_there : All (λ v. v < length parts) kids
  kids_there = All-from_get_or (λ v. v < length parts) kids 0 (λ s lt. let a = all_found s lt in let h = fills s a.0 a.1 in h.1)

  pub kids_are : kids_at (trees_of parts) kids ≡ children (named g is ps)
  kids_are = ordered parts kids (named g is ps) (length kids) 0 (omega arith) fills all_found ∙ ap (λ n. in_order n 0 (named g is ps)) as_long
