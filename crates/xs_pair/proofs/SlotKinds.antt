-- The kinds of slots on both sides.
use Rattle.std.proofs.Common.{◌≡◌, ◌⊎◌, ◌∙◌, ◌<◌, ◌≤◌, inl, inr, ap, sym, refl, subst, ℕ, suc, zero, List, [], ◌∷◌, ◌++◌, length, map, get_or, Some, None, Bool, true, false, arith, slice_get}
use Rattle.std.specs.Prelude.{◌==◌, bytes_eq, if◌then◌else◌}
use Rattle.std.specs.Cmp.Lexicographic.{bytes_decides}
use Rattle.std.specs.declared.option.Option.{Option}
use Rattle.std.proofs.lemmas.Bool.{cases_lt}
use Rattle.std.proofs.lemmas.Bool.Decides.{nat_tests}
use Rattle.std.proofs.lemmas.List.{length-map, map-append}
use Rattle.std.proofs.lemmas.Option.{none-some, same_Some, slice_get-get_or}
use Rattle.xs_class.specs.Ordered.{place_of}
use Rattle.xs_sheet.specs.declared.item.Item.{Item}
use Rattle.xs_sheet.specs.declared.item.Item.TheVariants as I
use Rattle.xs_gram.specs.declared.parts.GItem.{GItem}
use Rattle.xs_gram.specs.declared.parts.GItem.TheVariants.{Fixed, Term, Non, Skip}
use Rattle.xs_gram.specs.Common.{Kind, of_term, of_non, kinds, lookup}
use Rattle.xs_pair.specs.declared.mark.Mark.{Mark}
use Rattle.xs_pair.specs.declared.mark.Mark.TheVariants.{Value, Content}
use Rattle.xs_pair.specs.Directories.{IsDistinct}
use Rattle.xs_pair.specs.Grammars.{Numbering, flat_item, flat_mark, flat_marks, named_item}
use Rattle.xs_pair.specs.Marks.{item_slots, mark_slots, slots_of}
use Rattle.xs_pair.specs.Rules.{HasTwoNames, HasRepeat}
use Rattle.xs_pair.specs.Units.{number_of}
use Rattle.xs_pair.proofs.Places.{found_there}
use Rattle.xs_pair.proofs.Numbering.{number_is, number_bound, among_at}
use Rattle.xs_pair.proofs.Once.{Has, slot_at, distinct_no_repeat}
use Rattle.xs_pair.proofs.Twins.{Slots, firsts_of}
use Rattle.xs_pair.proofs.Buildable.{same_number, repeat_later, longer}

-- the kind of a unit's name
abbrev pub kind_as : Option ℕ → ℕ → Kind
kind_as None non = of_non non
kind_as (Some t) non = of_term t

abbrev pub kind_of : Numbering → List ℕ → Kind
kind_of n name = kind_as (place_of n.terms name) (number_of n.nons name)

abbrev pub numbered : Numbering → List (List ℕ) → List ℕ × List ℕ → ℕ × Kind
numbered n sl s = (number_of sl s.0, kind_of n s.1)

kinds-append : (xs ys : List GItem) → kinds (xs ++ ys) ≡ kinds xs ++ kinds ys
kinds-append [] ys = refl
kinds-append (Fixed w ∷ xs) ys = kinds-append xs ys
kinds-append (Term t s ∷ xs) ys = ap (λ (l : List (ℕ × Kind)). (s, of_term t) ∷ l) (kinds-append xs ys)
kinds-append (Non n s ∷ xs) ys = ap (λ (l : List (ℕ × Kind)). (s, of_non n) ∷ l) (kinds-append xs ys)
kinds-append (Skip k ∷ xs) ys = kinds-append xs ys

item_kinds : (n : Numbering) (sl : List (List ℕ)) (i : Item) → kinds (flat_item n sl i) ≡ map (numbered n sl) (item_slots i)
item_kinds n sl (I.Fixed []) = refl
item_kinds n sl (I.Fixed (c ∷ cs)) = refl
item_kinds n sl (I.Skip name) = refl
item_kinds n sl (I.Named name slot) = by_case (place_of n.terms name)
  where
    by_case : (o : Option ℕ) → kinds (named_item o (number_of n.nons name) (number_of sl slot) ∷ []) ≡ (number_of sl slot, kind_as o (number_of n.nons name)) ∷ []
    by_case None = refl
    by_case (Some t) = refl

mark_kinds : (n : Numbering) (sl : List (List ℕ)) (m : Mark) → kinds (flat_mark n sl m) ≡ map (numbered n sl) (mark_slots m)
mark_kinds n sl (Value i) = item_kinds n sl i
mark_kinds n sl (Content i) = item_kinds n sl i
mark_kinds n sl m = refl

pub flat_kinds : (n : Numbering) (sl : List (List ℕ)) (ms : List Mark) → kinds (flat_marks n sl ms) ≡ map (numbered n sl) (slots_of ms)
flat_kinds n sl [] = refl
flat_kinds n sl (m ∷ ms) =
    kinds-append (flat_mark n sl m) (flat_marks n sl ms)
    ∙ ap (λ (l : List (ℕ × Kind)). l ++ kinds (flat_marks n sl ms)) (mark_kinds n sl m)
    ∙ ap (λ (l : List (ℕ × Kind)). map (numbered n sl) (mark_slots m) ++ l) (flat_kinds n sl ms)
    ∙ sym (map-append (numbered n sl) (mark_slots m) (slots_of ms))

-- what stands under the number of a slot
found_kind : (n : Numbering) (sl : List (List ℕ)) (ss : Slots) (k : ℕ) (slot name : List ℕ) → (HasRepeat (firsts_of ss) → ⊥) → Has sl (firsts_of ss) → slice_get ss k ≡ Some (slot, name) → lookup (number_of sl slot) (map (numbered n sl) ss) ≡ Some (kind_of n name)
found_kind n sl [] k slot name never there at = absurd (none-some (slot, name) at)
found_kind n sl (s ∷ ss) zero slot name never there at =
    let is : s ≡ (slot, name) = same_Some s (slot, name) at in
    ap (λ b. if b then Some (kind_of n s.1) else lookup (number_of sl slot) (map (numbered n sl) ss)) (same_test (number_of sl s.0) (number_of sl slot) (ap (λ (p : List ℕ × List ℕ). number_of sl p.0) is)) ∙ ap (λ (p : List ℕ × List ℕ). Some (kind_of n p.1)) is
  where
    same_test : (a b : ℕ) → a ≡ b → (a == b) ≡ true
    same_test a b e = grind (arith, nat_tests)
found_kind n sl (s ∷ ss) (suc k) slot name never there at =
    let later : slice_get (firsts_of ss) k ≡ Some slot = slot_at ss k slot name at in
    let other : number_of sl s.0 ≡ number_of sl slot → ⊥ = λ e. never (record { name = slot; j = 0; k = suc k; before = omega arith; first_at = ap Some (same_number sl s.0 slot (there 0 s.0 refl) (there (suc k) slot later) e); again_at = later }) in
    ap (λ b. if b then Some (kind_of n s.1) else lookup (number_of sl slot) (map (numbered n sl) ss)) (other_test (number_of sl s.0) (number_of sl slot) other)
    ∙ found_kind n sl ss k slot name (λ r. never (repeat_later s.0 (firsts_of ss) r)) (λ j m is. there (suc j) m is) at
  where
    other_test : (a b : ℕ) → (a ≡ b → ⊥) → (a == b) ≡ false
    other_test a b e = grind (arith, nat_tests)

no_kind : (n : Numbering) (sl : List (List ℕ)) (ss : Slots) (j : ℕ) → Has sl (firsts_of ss) → length sl ≤ j → lookup j (map (numbered n sl) ss) ≡ None
no_kind n sl [] j there le = refl
no_kind n sl (s ∷ ss) j there le =
    ap (λ b. if b then Some (kind_of n s.1) else lookup j (map (numbered n sl) ss)) (other_test (number_of sl s.0) j (λ e. (let low = number_bound sl s.0 (there 0 s.0 refl) in omega arith)))
    ∙ no_kind n sl ss j (λ k m is. there (suc k) m is) le
  where
    other_test : (a b : ℕ) → (a ≡ b → ⊥) → (a == b) ≡ false
    other_test a b e = grind (arith, nat_tests)

-- the same kinds stand under the same numbers
pub record SameKinds (is js : List GItem) : Type 0 where
  pub long : length (kinds is) ≡ length (kinds js)
  pub same : (slot : ℕ) → lookup slot (kinds is) ≡ lookup slot (kinds js)

slot_there : (ss : Slots) (k : ℕ) (slot : List ℕ) → slice_get (firsts_of ss) k ≡ Some slot → (name : List ℕ) × (slice_get ss k ≡ Some (slot, name))
slot_there [] k slot at = absurd (none-some slot at)
slot_there (s ∷ ss) zero slot at = (s.1, ap (λ (x : List ℕ). Some (x, s.1)) (same_Some s.0 slot at))
slot_there (s ∷ ss) (suc k) slot at = slot_there ss k slot at

names_same : (a b : List ℕ) → ((a ≡ b → ⊥) → ⊥) → a ≡ b
names_same a b not_not = by_test (bytes_eq a b) refl
  where
    by_test : (t : Bool) → bytes_eq a b ≡ t → a ≡ b
    by_test true t = (bytes_decides a b).0 t
    by_test false t = absurd (not_not (λ same. (let yes : bytes_eq a b ≡ true = (bytes_decides a b).1 same in cc)))

pub same_kinds : (n : Numbering) (left right : List Mark) → IsDistinct (firsts_of (slots_of left)) → IsDistinct (firsts_of (slots_of right)) → Has (firsts_of (slots_of left)) (firsts_of (slots_of right)) → Has (firsts_of (slots_of right)) (firsts_of (slots_of left)) → (HasTwoNames (slots_of left) (slots_of right) → ⊥) → SameKinds (flat_marks n (firsts_of (slots_of left)) left) (flat_marks n (firsts_of (slots_of left)) right)
same_kinds n left right one two back forth same = record {
  long = rw (flat_kinds n (firsts_of (slots_of left)) left, flat_kinds n (firsts_of (slots_of left)) right) (omega (arith, length-map (slots_of left) (numbered n (firsts_of (slots_of left))), length-map (slots_of right) (numbered n (firsts_of (slots_of left))), long_left, long_right, length-map (slots_of left) (λ (s : List ℕ × List ℕ). s.0), length-map (slots_of right) (λ (s : List ℕ × List ℕ). s.0)));
  same = λ j. rw (flat_kinds n (firsts_of (slots_of left)) left, flat_kinds n (firsts_of (slots_of left)) right) (by_case j (cases_lt j (length (firsts_of (slots_of left)))));
}
  where
    long_left : length (firsts_of (slots_of left)) ≤ length (firsts_of (slots_of right))
    long_left = longer (firsts_of (slots_of left)) (firsts_of (slots_of right)) one forth

    long_right : length (firsts_of (slots_of right)) ≤ length (firsts_of (slots_of left))
    long_right = longer (firsts_of (slots_of right)) (firsts_of (slots_of left)) two back

    by_case : (j : ℕ) → (j < length (firsts_of (slots_of left))) ⊎ (length (firsts_of (slots_of left)) ≤ j) → lookup j (map (numbered n (firsts_of (slots_of left))) (slots_of left)) ≡ lookup j (map (numbered n (firsts_of (slots_of left))) (slots_of right))
    by_case j (inr high) = no_kind n (firsts_of (slots_of left)) (slots_of left) j (among_at (firsts_of (slots_of left))) high ∙ sym (no_kind n (firsts_of (slots_of left)) (slots_of right) j back high)
    by_case j (inl low) =
        let sl : List (List ℕ) = firsts_of (slots_of left) in
        let slot : List ℕ = get_or sl j [] in
        let at : slice_get sl j ≡ Some slot = slice_get-get_or sl j [] low in
        let here = slot_there (slots_of left) j slot at in
        let (k, is) = forth j slot at in
        let there = slot_there (slots_of right) k slot (found_there (firsts_of (slots_of right)) slot k is) in
        let number : number_of sl slot ≡ j = number_is sl slot j (one j slot at) in
        let left_is = found_kind n sl (slots_of left) j slot here.0 (distinct_no_repeat sl one) (among_at sl) here.1 in
        let right_is = found_kind n sl (slots_of right) k slot there.0 (distinct_no_repeat (firsts_of (slots_of right)) two) back there.1 in
        let agree : here.0 ≡ there.0 = names_same here.0 there.0 (λ differ. same (record { slot = slot; name = here.0; other = there.0; j = j; k = k; left_at = here.1; right_at = there.1; differ = differ })) in
        subst (λ m. lookup m (map (numbered n sl) (slots_of left)) ≡ lookup m (map (numbered n sl) (slots_of right))) number
        (left_is ∙ ap (λ (a : List ℕ). Some (kind_of n a)) agree ∙ sym right_is)
