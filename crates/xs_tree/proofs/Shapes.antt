-- What the test of a hashed table says of its shapes as parts.
use Rattle.std.proofs.Common.{◌≡◌, inl, inr, ℕ, zero, suc, ◌<◌, Bool, true, false, eqb, if◌then◌else◌, List, [], ◌∷◌, ◌++◌, map, get_or, slice_get, Some, refl, sym, ◌∙◌, ap, true≢false, arith}
use Rattle.std.specs.Bool.{Decides}
use Rattle.std.specs.Cmp.Lexicographic.{pointwise}
use Rattle.std.specs.List.{IsDistinct, list_any}
use Rattle.std.specs.Option.{option_map}
use Rattle.std.proofs.lemmas.Bool.Decides.{Decides-eqb}
use Rattle.std.proofs.lemmas.Slice.Eq.{slice_eq-Decides}
use Rattle.std.proofs.lemmas.List.{map-append}
use Rattle.std.proofs.lemmas.Option.{none-some, same_Some, slice_get-map, slice_get_within, get_or_from_slice_get}
use Rattle.std.proofs.lemmas.Map.Keys.{apart_from_distinct}
use Rattle.xs_tree.specs.Flat.{TreePart, Leaf, Node}
use Rattle.xs_tree.specs.declared.table.Shape.{Shape}
use Rattle.xs_tree.specs.declared.table.Shape.TheVariants.{Word, Made}
use Rattle.xs_tree.specs.contracts.table.ShapePartialEq.TheImpl as block
use Rattle.xs_class.specs.contracts.sym.SymPartialEq.TheImpl as symbol
use Rattle.xs_tree.specs.Tables.{AreDifferent, IsGrown, part_of}
use Rattle.xs_class.proofs.Truth.{and_true, both_true}

abbrev pub eq : Shape → Shape → Bool
eq = block.ghosts.eq

abbrev sym_eq : ℕ → ℕ → Bool
sym_eq = symbol.ghosts.eq

sym_decides : (a b : ℕ) → Decides (sym_eq a b) (a ≡ b)
sym_decides a b = Decides-eqb a b

words_decide : (v w : List ℕ) → Decides (pointwise sym_eq v w) (v ≡ w)
words_decide v w = slice_eq-Decides {E = sym_eq} sym_decides v w (pointwise sym_eq v w) refl

places_decide : (v w : List ℕ) → Decides (pointwise eqb v w) (v ≡ w)
places_decide v w = slice_eq-Decides {E = eqb} Decides-eqb v w (pointwise eqb v w) refl

leaf_same : (v w : List ℕ) → Leaf v ≡ Leaf w → v ≡ w
leaf_same v w h = cc

leaf_node : (v ks : List ℕ) (p : ℕ) → Leaf v ≡ Node p ks → ⊥
leaf_node v ks p h = cc

node_rule : (p q : ℕ) (ks ls : List ℕ) → Node p ks ≡ Node q ls → p ≡ q
node_rule p q ks ls h = cc

node_kids : (p q : ℕ) (ks ls : List ℕ) → Node p ks ≡ Node q ls → ks ≡ ls
node_kids p q ks ls h = cc

-- the test passes exactly where the parts are equal
pub same_shape : (x y : Shape) → eq x y ≡ true → part_of x ≡ part_of y
same_shape (Word v) (Word w) h = ap Leaf ((words_decide v.items w.items).0 h)
same_shape (Word v) (Made p ks) h = absurd (true≢false (sym h))
same_shape (Made p ks) (Word w) h = absurd (true≢false (sym h))
same_shape (Made p ks) (Made q ls) h =
    let both = and_true (eqb p q) (pointwise eqb ks.items ls.items) h in
    ap (λ r. Node r ks.items) ((Decides-eqb p q).0 both.0) ∙ ap (Node q) ((places_decide ks.items ls.items).0 both.1)

pub shape_same : (x y : Shape) → part_of x ≡ part_of y → eq x y ≡ true
shape_same (Word v) (Word w) h = (words_decide v.items w.items).1 (leaf_same v.items w.items h)
shape_same (Word v) (Made p ks) h = absurd (leaf_node v.items ks.items p h)
shape_same (Made p ks) (Word w) h = absurd (leaf_node w.items ks.items p (sym h))
shape_same (Made p ks) (Made q ls) h =
    both_true (eqb p q) (pointwise eqb ks.items ls.items) ((Decides-eqb p q).1 (node_rule p q ks.items ls.items h)) ((places_decide ks.items ls.items).1 (node_kids p q ks.items ls.items h))

-- what is inserted stands last, or was there
pub grown_shapes : (old new : List Shape) (shape : Shape) → new ≡ (if list_any (eq shape) old then old else old ++ shape ∷ []) → IsGrown (map part_of old) (part_of shape) (map part_of new)
grown_shapes old new shape is = by (list_any (eq shape) old) is
  where
    by : (b : Bool) → new ≡ (if b then old else old ++ shape ∷ []) → IsGrown (map part_of old) (part_of shape) (map part_of new)
    by true same = inl (ap (map part_of) same)
    by false more = inr (ap (map part_of) more ∙ map-append part_of old (shape ∷ []))

pub stored_shape : (new : List Shape) (shape : Shape) (number : ℕ) → ((k : Shape) × (slice_get new number ≡ Some k) × (eq shape k ≡ true)) → slice_get (map part_of new) number ≡ Some (part_of shape)
stored_shape new shape number (k, found, same) = slice_get-map part_of new number ∙ ap (option_map part_of) found ∙ ap (λ p. Some p) (sym (same_shape shape k same))

place_of : (shapes : List Shape) (j : ℕ) (part : TreePart) → slice_get (map part_of shapes) j ≡ Some part → (x : Shape) × (slice_get shapes j ≡ Some x) × (part_of x ≡ part)
place_of [] j part is = absurd (none-some part is)
place_of (s ∷ shapes) zero part is = (s, refl, same_Some (part_of s) part is)
place_of (s ∷ shapes) (suc j) part is = place_of shapes j part is

apart : (shapes : List Shape) (j k : ℕ) (part : TreePart) → IsDistinct eq shapes → slice_get (map part_of shapes) j ≡ Some part → slice_get (map part_of shapes) k ≡ Some part → j < k → ⊥
apart shapes j k part distinct at_j at_k lt =
    let a = place_of shapes j part at_j in
    let b = place_of shapes k part at_k in
    let here = get_or_from_slice_get shapes j a.0 a.0 a.1 in
    let there = get_or_from_slice_get shapes k b.0 a.0 b.1 in
    let other = apart_from_distinct eq shapes j k a.0 distinct lt (slice_get_within shapes k b.0 b.1) in
    true≢false (sym (shape_same a.0 b.0 (a.2 ∙ sym b.2)) ∙ sym (ap (λ y. eq y b.0) here) ∙ sym (ap (λ y. eq (get_or shapes j a.0) y) there) ∙ other)

-- no part stands twice
pub different_parts : (shapes : List Shape) → IsDistinct eq shapes → AreDifferent (map part_of shapes)
different_parts shapes distinct j k part at_j at_k =
    let before : j < k → ⊥ = apart shapes j k part distinct at_j at_k in
    let after : k < j → ⊥ = apart shapes k j part distinct at_k at_j in
    omega arith
