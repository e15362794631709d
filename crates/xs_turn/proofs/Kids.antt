-- The numbers at the slots of a node: which are its children, in the order of the slots.
use Rattle.std.proofs.Common.{◌≡◌, ◌≢◌, ℕ, zero, suc, ◌+◌, ◌<◌, ◌≤◌, List, [], ◌∷◌, ◌++◌, length, All, Some, refl, sym, ◌∙◌, ap, subst, arith, inl, inr, drop, drop-cons, add-one, append-nil, append_assoc, length-append, get_or-set_same, get_or-set_other}
use Rattle.std.specs.Prelude.{slice_index, slice_set}
use Rattle.std.proofs.Math.ListN.{length-set}
use Rattle.std.proofs.Math.Seq.{get_or-append_seam}
use Rattle.std.proofs.lemmas.Bool.Decides.{eqb_tells}
use Rattle.std.proofs.lemmas.List.{drop_all, get_or_append_left}
use Rattle.std.proofs.lemmas.List.Elements.{All-from_get_or}
use Rattle.xs_gram.specs.Common.{Common, word, kid, lookup, child_of, in_order, children}
use Rattle.xs_gram.specs.Laws.{Every, IsDistinct, IsNumbered}
use Rattle.xs_gram.proofs.Lookup.{keys, length-keys}
use Rattle.xs_gram.proofs.Entries.{lookup_same, lookup_other, found}
use Rattle.xs_tree.specs.Flat.{tree_at, kids_at}
use Rattle.xs_turn.specs.Tables.{Grows, AreKids, slots_of}

pub grows_none : (a : List Common) → Grows a a
grows_none a = ([], sym (append-nil a))

pub grows_all : (a b c : List Common) → Grows a b → Grows b c → Grows a c
grows_all a b c (xs, e) (ys, h) = (xs ++ ys, h ∙ ap (λ (l : List Common). l ++ ys) e ∙ simp (append_assoc))

pub grows_longer : (a b : List Common) → Grows a b → length a ≤ length b
grows_longer a b (xs, e) = let n = ap length e in omega (arith, length-append a xs)

-- a tree stays where the list goes on
pub tree_grows : (a b : List Common) (k : ℕ) → Grows a b → k < length a → tree_at b k ≡ tree_at a k
tree_grows a b k (xs, e) lt = ap (λ (l : List Common). tree_at l k) e ∙ get_or_append_left a xs (word []) k lt

-- the last tree
pub last_tree : (a : List Common) (t : Common) → tree_at (a ++ t ∷ []) (length a) ≡ t
last_tree a t = get_or-append_seam a t [] (word [])

pub last_there : (a : List Common) (t : Common) → length a < length (a ++ t ∷ [])
last_there a t = let e = length-append a (t ∷ []) in omega arith

pub kids_grow : (a b : List Common) (ks : List ℕ) (es : List (ℕ × Common)) → Grows a b → AreKids a ks es → AreKids b ks es
kids_grow a b ks [] more h = tt
kids_grow a b ks (e ∷ es) more h =
    let le = grows_longer a b more in
    (h.0, omega (arith, h.1), tree_grows a b (slice_index ks e.0) more h.1 ∙ h.2, kids_grow a b ks es more h.3)

-- what is put at another slot changes nothing
pub put_other : (a : List Common) (ks : List ℕ) (es : List (ℕ × Common)) (s v : ℕ) → Every (λ m. m ≢ s) (slots_of es) → AreKids a ks es → AreKids a (slice_set ks s v) es
put_other a ks [] s v other h = tt
put_other a ks (e ∷ es) s v other h =
    let long = length-set ks s v in
    let here : slice_index (slice_set ks s v) e.0 ≡ slice_index ks e.0 = get_or-set_other ks s e.0 v 0 other.0 in
    (omega (arith, h.0), omega (arith, h.1), ap (tree_at a) here ∙ h.2, put_other a ks es s v other.1 h.3)

-- one more entry at the end
kids_push : (a : List Common) (ks : List ℕ) (es : List (ℕ × Common)) (s : ℕ) (t : Common) → s < length ks → slice_index ks s < length a → tree_at a (slice_index ks s) ≡ t → AreKids a ks es → AreKids a ks (es ++ (s, t) ∷ [])
kids_push a ks [] s t below there is h = (below, there, is, tt)
kids_push a ks (e ∷ es) s t below there is h = (h.0, h.1, h.2, kids_push a ks es s t below there is h.3)

-- a tree's number is put at a slot that no entry has
pub kids_put : (a : List Common) (ks : List ℕ) (es : List (ℕ × Common)) (s v : ℕ) (t : Common) → s < length ks → v < length a → tree_at a v ≡ t → Every (λ m. m ≢ s) (slots_of es) → AreKids a ks es → AreKids a (slice_set ks s v) (es ++ (s, t) ∷ [])
kids_put a ks es s v t below there is other h =
    let long = length-set ks s v in
    let here : slice_index (slice_set ks s v) s ≡ v = get_or-set_same ks s v 0 below in
    kids_push a (slice_set ks s v) es s t (omega arith) (omega arith) (ap (tree_at a) here ∙ is) (put_other a ks es s v other h)

pub slots_push : (es : List (ℕ × Common)) (s : ℕ) (t : Common) → slots_of (es ++ (s, t) ∷ []) ≡ slots_of es ++ s ∷ []
slots_push [] s t = refl
slots_push (e ∷ es) s t = ap (λ (l : List ℕ). e.0 ∷ l) (slots_push es s t)

every_at : (P : ℕ → Type 0) (xs ys : List ℕ) (s : ℕ) → Every P (xs ++ s ∷ ys) → P s
every_at P [] ys s h = h.0
every_at P (x ∷ xs) ys s h = every_at P xs ys s h.1

-- the next slot is none of those before it
pub slot_apart : (es : List (ℕ × Common)) (s : ℕ) (more : List ℕ) → IsDistinct (slots_of es ++ s ∷ more) → Every (λ m. m ≢ s) (slots_of es)
slot_apart [] s more h = tt
slot_apart (e ∷ es) s more h = ((λ same. every_at (λ m. m ≢ e.0) (slots_of es) more s h.0 (sym same)), slot_apart es s more h.1)

slots_keys : (es : List (ℕ × Common)) → slots_of es ≡ keys es
slots_keys [] = refl
slots_keys (e ∷ es) = ap (λ (l : List ℕ). e.0 ∷ l) (slots_keys es)

some_is : (x y : Common) → Some x ≡ Some y → x ≡ y
some_is x y e = cc

-- the entry that is found under a slot has its number there
at_slot : (a : List Common) (ks : List ℕ) (es : List (ℕ × Common)) (s : ℕ) (t : Common) → AreKids a ks es → lookup s es ≡ Some t → (slice_index ks s < length a) × (tree_at a (slice_index ks s) ≡ t)
at_slot a ks [] s t h e = cc
at_slot a ks ((r, u) ∷ es) s t h e = elim (eqb_tells s r) [
  | inl (one, same) ↦
      let is : u ≡ t = some_is u t (sym (lookup_same r u es) ∙ ap (λ k. lookup k ((r, u) ∷ es)) (sym same) ∙ e) in
      let there : slice_index ks s ≡ slice_index ks r = ap (slice_index ks) same in
      (omega (arith, h.1), ap (tree_at a) there ∙ h.2 ∙ is)
  | inr (two, ne) ↦ at_slot a ks es s t h.3 (sym (lookup_other r s u es ne) ∙ e)
]

-- the kids from a slot on are the children from there on
ordered : (a : List Common) (ks : List ℕ) (es : List (ℕ × Common)) (n slot : ℕ) → slot + n ≡ length ks → AreKids a ks es → ((s : ℕ) → s < length ks → (t : Common) × (lookup s es ≡ Some t)) → kids_at a (drop slot ks) ≡ in_order n slot es
ordered a ks es zero slot e h all = ap (kids_at a) (drop_all slot ks (omega arith))
ordered a ks es (suc n) slot e h all =
    let lt : slot < length ks = omega arith in
    let f = all slot lt in
    let at = at_slot a ks es slot f.0 h f.1 in
    let here : tree_at a (slice_index ks slot) ≡ child_of (lookup slot es) = at.1 ∙ ap child_of (sym f.1) in
    let later : kids_at a (drop (suc slot) ks) ≡ in_order n (slot + 1) es = ordered a ks es n (suc slot) (omega arith) h all ∙ ap (λ s. in_order n s es) (sym (add-one slot)) in
    ap (kids_at a) (drop-cons ks slot 0 lt) ∙ ap (λ t. kid t (kids_at a (drop (suc slot) ks))) here ∙ ap (kid (child_of (lookup slot es))) later

module _ (a : List Common) (ks : List ℕ) (es : List (ℕ × Common)) (ss : List ℕ) (numbered : IsNumbered ss) (slots_are : slots_of es ≡ ss) (long : length ks ≡ length ss) (are : AreKids a ks es) where
  as_long : length ks ≡ length es
  as_long = long ∙ ap length (sym slots_are ∙ slots_keys es) ∙ length-keys es

  all_found : (s : ℕ) → s < length ks → (t : Common) × (lookup s es ≡ Some t)
  all_found s lt =
      let e = as_long in
      found es (subst IsNumbered (sym slots_are ∙ slots_keys es) numbered) s (omega arith)

  -- all kids are trees, and they are the children
  pub kids_there : All (λ v. v < length a) ks
  kids_there = All-from_get_or (λ v. v < length a) ks 0 (λ s lt. let f = all_found s lt in let h = at_slot a ks es s f.0 are f.1 in h.0)

  pub kids_are_children : kids_at a ks ≡ children es
  kids_are_children = ordered a ks es (length ks) 0 (omega arith) are all_found ∙ ap (λ n. in_order n 0 es) as_long
