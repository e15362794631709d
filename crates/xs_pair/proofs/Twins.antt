-- Slots that have the same name of a unit on both sides.
use Rattle.std.proofs.Common.{◌≡◌, ◌⊎◌, ◌∙◌, ◌<◌, ◌≤◌, ◌+◌, inl, inr, ap, sym, subst, ℕ, List, length, map, Some, None, arith, slice_get}
use Rattle.std.proofs.lemmas.Bool.{cases_lt}
use Rattle.std.proofs.lemmas.List.{length-map}
use Rattle.std.proofs.lemmas.Option.{same_Some, slice_get-map, slice_get_within}
use Rattle.std.specs.Borrow.{Bor}
use Rattle.std.specs.Option.{option_map}
use Rattle.xs_class.specs.Ordered.{place_of}
use Rattle.xs_pair.specs.Directories.{IsDistinct}
use Rattle.xs_pair.specs.Marks.{shown}
use Rattle.xs_pair.specs.Rules.{HasTwoNames}
use Rattle.xs_pair.proofs.Places.{found_there, stands_nowhere}
use Rattle.xs_pair.proofs.Once.{slot_at}

abbrev pub Slots : Type 0
Slots = List (List ℕ × List ℕ)

-- slots that the code has by reference
pub shown_at : (ss : List (Bor (List ℕ) × Bor (List ℕ))) (k : ℕ) (s : Bor (List ℕ) × Bor (List ℕ)) → slice_get ss k ≡ Some s → slice_get (shown ss) k ≡ Some (s.0.now, s.1.now)
shown_at ss k s at = slice_get-map (λ (s : Bor (List ℕ) × Bor (List ℕ)). (s.0.now, s.1.now)) ss k ∙ ap (option_map (λ (s : Bor (List ℕ) × Bor (List ℕ)). (s.0.now, s.1.now))) at

pub length_shown : (ss : List (Bor (List ℕ) × Bor (List ℕ))) → length (shown ss) ≡ length ss
length_shown ss = length-map ss (λ (s : Bor (List ℕ) × Bor (List ℕ)). (s.0.now, s.1.now))

abbrev pub firsts_of : Slots → List (List ℕ)
firsts_of ss = map (λ (s : List ℕ × List ℕ). s.0) ss

pub slot_bound : (slots : List (List ℕ)) (left : Slots) (slot : List ℕ) (p : ℕ) → slots ≡ firsts_of left → place_of slots slot ≡ Some p → p < length left
slot_bound slots left slot p is found =
    let within = slice_get_within slots p slot (found_there slots slot p found) in
    let long : length slots ≡ length left = ap length is ∙ length-map left (λ (s : List ℕ × List ℕ). s.0) in omega arith

-- a slot of the right side, and where it stands first on the left one
pub two_here : (slots : List (List ℕ)) (left right : Slots) (p i : ℕ) (x y : List ℕ × List ℕ) → slots ≡ firsts_of left → slice_get left p ≡ Some x → slice_get right i ≡ Some y → place_of slots y.0 ≡ Some p → (x.1 ≡ y.1 → ⊥) → HasTwoNames left right
two_here slots left right p i x y is at_left at_right found differ =
    let same : x.0 ≡ y.0 = same_Some x.0 y.0 (sym (slot_at left p x.0 x.1 at_left) ∙ ap (λ l. slice_get l p) (sym is) ∙ found_there slots y.0 p found) in
    record { slot = y.0; name = x.1; other = y.1; j = p; k = i; left_at = at_left ∙ ap (λ (s : List ℕ). Some (s, x.1)) same; right_at = at_right; differ = differ }

pub same_here : (slots : List (List ℕ)) (left right : Slots) (p i : ℕ) (x y : List ℕ × List ℕ) → slots ≡ firsts_of left → IsDistinct slots → slice_get left p ≡ Some x → slice_get right i ≡ Some y → place_of slots y.0 ≡ Some p → x.1 ≡ y.1 → (j : ℕ) (slot name other : List ℕ) → slice_get left j ≡ Some (slot, name) → slice_get right i ≡ Some (slot, other) → name ≡ other
same_here slots left right p i x y is once at_left at_right found same j slot name other left_at right_at =
    let y_is : y ≡ (slot, other) = same_Some y (slot, other) (sym at_right ∙ right_at) in
    let here : slice_get slots j ≡ Some slot = ap (λ l. slice_get l j) is ∙ slot_at left j slot name left_at in
    let one : j ≡ p = same_Some j p (sym (once j slot here) ∙ ap (place_of slots) (sym (ap (λ (s : List ℕ × List ℕ). s.0) y_is)) ∙ found) in
    let x_is : x ≡ (slot, name) = same_Some x (slot, name) (sym at_left ∙ ap (λ k. slice_get left k) (sym one) ∙ left_at) in
    sym (ap (λ (s : List ℕ × List ℕ). s.1) x_is) ∙ same ∙ ap (λ (s : List ℕ × List ℕ). s.1) y_is

pub none_here : (slots : List (List ℕ)) (left right : Slots) (i : ℕ) (y : List ℕ × List ℕ) → slots ≡ firsts_of left → slice_get right i ≡ Some y → place_of slots y.0 ≡ None → (j : ℕ) (slot name other : List ℕ) → slice_get left j ≡ Some (slot, name) → slice_get right i ≡ Some (slot, other) → name ≡ other
none_here slots left right i y is at_right none j slot name other left_at right_at =
    let y_is : y ≡ (slot, other) = same_Some y (slot, other) (sym at_right ∙ right_at) in
    let here : slice_get slots j ≡ Some slot = ap (λ l. slice_get l j) is ∙ slot_at left j slot name left_at in
    absurd (stands_nowhere slots slot j (ap (place_of slots) (sym (ap (λ (s : List ℕ × List ℕ). s.0) y_is)) ∙ none) here)

abbrev pub AreSame : Slots → Slots → ℕ → Type 0
AreSame left right i = (j k : ℕ) (slot name other : List ℕ) → k < i → slice_get left j ≡ Some (slot, name) → slice_get right k ≡ Some (slot, other) → name ≡ other

pub same_more : (left right : Slots) (i : ℕ) → AreSame left right i → ((j : ℕ) (slot name other : List ℕ) → slice_get left j ≡ Some (slot, name) → slice_get right i ≡ Some (slot, other) → name ≡ other) → AreSame left right (i + 1)
same_more left right i before here j k slot name other lt left_at right_at = by_case (cases_lt k i)
  where
    by_case : (k < i) ⊎ (i ≤ k) → name ≡ other
    by_case (inl low) = before j k slot name other low left_at right_at
    by_case (inr high) = let last : k ≡ i = omega arith in here j slot name other left_at (subst (λ m. slice_get right m ≡ Some (slot, other)) last right_at)

pub all_same : (left right : Slots) (i : ℕ) → length right ≤ i → AreSame left right i → HasTwoNames left right → ⊥
all_same left right i le same two = two.differ (same two.j two.k two.slot two.name two.other (omega (arith, slice_get_within right two.k (two.slot, two.other) two.right_at)) two.left_at two.right_at)
