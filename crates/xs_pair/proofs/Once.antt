-- Slots that stand exactly once on either side.
use Rattle.std.proofs.Common.{◌≡◌, ◌⊎◌, ◌∙◌, ◌<◌, ◌≤◌, inl, inr, ap, sym, subst, ℕ, suc, zero, List, [], ◌∷◌, map, Some, arith, slice_get}
use Rattle.std.proofs.lemmas.Bool.{cases_lt}
use Rattle.std.proofs.lemmas.Option.{none-some, same_Some}
use Rattle.xs_class.specs.Ordered.{place_of}
use Rattle.xs_pair.specs.Directories.{IsDistinct}
use Rattle.xs_pair.specs.Rules.{IsAbsent, IsAmong, IsOnce, IsNotOnce, HasRepeat}
use Rattle.xs_pair.proofs.Places.{found_there, first_before, stands_nowhere, among_if}

-- in a list where each name stands at one place only, none stands twice
pub distinct_no_repeat : (ns : List (List ℕ)) → IsDistinct ns → HasRepeat ns → ⊥
distinct_no_repeat ns once twice =
    let same : twice.j ≡ twice.k = same_Some twice.j twice.k (sym (once twice.j twice.name twice.first_at) ∙ once twice.k twice.name twice.again_at) in
    let lt = twice.before in omega arith

pub no_repeat_distinct : (ns : List (List ℕ)) → (HasRepeat ns → ⊥) → IsDistinct ns
no_repeat_distinct ns never k name at = let (j, le, is) = first_before ns name k at in by_case j is (cases_lt j k) le
  where
    by_case : (j : ℕ) → place_of ns name ≡ Some j → (j < k) ⊎ (k ≤ j) → j ≤ k → place_of ns name ≡ Some k
    by_case j is (inl low) le = absurd (never (record { name = name; j = j; k = k; before = low; first_at = found_there ns name j is; again_at = at }))
    by_case j is (inr high) le = let same : j ≡ k = omega arith in is ∙ ap Some same

once_of : (ns : List (List ℕ)) (slot : List ℕ) → IsDistinct ns → IsAmong ns slot → IsOnce ns slot
once_of ns slot once (k, is) = (k, found_there ns slot k is, λ j at. same_Some j k (sym (once j slot at) ∙ is))

-- the first names have all of the second
abbrev pub Has : List (List ℕ) → List (List ℕ) → Type 0
Has ns ms = (k : ℕ) (name : List ℕ) → slice_get ms k ≡ Some name → IsAmong ns name

pub once_is : (left right : List (List ℕ)) → IsDistinct left → IsDistinct right → Has left right → Has right left → IsNotOnce left right → ⊥
once_is left right one two back forth ill = by_case ill.there
  where
    by_case : IsAmong left ill.slot ⊎ IsAmong right ill.slot → ⊥
    by_case (inl (k, is)) = ill.not_once (once_of left ill.slot one (k, is)) (once_of right ill.slot two (forth k ill.slot (found_there left ill.slot k is)))
    by_case (inr (k, is)) = ill.not_once (once_of left ill.slot one (back k ill.slot (found_there right ill.slot k is))) (once_of right ill.slot two (k, is))

-- the same names in the same order, each once
pub in_order : (left right : List (List ℕ)) → IsDistinct left → right ≡ left → IsNotOnce left right → ⊥
in_order left right once same ill =
    once_is left left once once (λ k name at. (k, once k name at)) (λ k name at. (k, once k name at)) (subst (λ (ns : List (List ℕ)). IsNotOnce left ns) same ill)

repeat_among : (ns : List (List ℕ)) (r : HasRepeat ns) → IsAmong ns r.name
repeat_among ns r = let (k, le, is) = first_before ns r.name r.j r.first_at in (k, is)

repeat_not_once : (ns : List (List ℕ)) (r : HasRepeat ns) → IsOnce ns r.name → ⊥
repeat_not_once ns r (k, at, only) =
    let one : r.j ≡ k = only r.j r.first_at in
    let two : r.k ≡ k = only r.k r.again_at in
    let lt = r.before in omega arith

pub left_repeats : (left right : List (List ℕ)) → HasRepeat left → IsNotOnce left right
left_repeats left right r = record { slot = r.name; there = inl (repeat_among left r); not_once = λ one two. repeat_not_once left r one }

pub right_repeats : (left right : List (List ℕ)) → HasRepeat right → IsNotOnce left right
right_repeats left right r = record { slot = r.name; there = inr (repeat_among right r); not_once = λ one two. repeat_not_once right r two }

pub left_lacks : (left right : List (List ℕ)) (k : ℕ) (name : List ℕ) → slice_get right k ≡ Some name → IsAbsent left name → IsNotOnce left right
left_lacks left right k name at none = let (j, le, is) = first_before right name k at in
    record { slot = name; there = inr (j, is); not_once = λ one two. stands_nowhere left name one.0 none one.1 }

pub right_lacks : (left right : List (List ℕ)) (k : ℕ) (name : List ℕ) → slice_get left k ≡ Some name → IsAbsent right name → IsNotOnce left right
right_lacks left right k name at none = let (j, le, is) = first_before left name k at in
    record { slot = name; there = inl (j, is); not_once = λ one two. stands_nowhere right name two.0 none two.1 }

-- what holds where each slot stands once on either side
pub once_left : (left right : List (List ℕ)) → (IsNotOnce left right → ⊥) → IsDistinct left
once_left left right passes = no_repeat_distinct left (λ r. passes (left_repeats left right r))

pub once_right : (left right : List (List ℕ)) → (IsNotOnce left right → ⊥) → IsDistinct right
once_right left right passes = no_repeat_distinct right (λ r. passes (right_repeats left right r))

pub once_back : (left right : List (List ℕ)) → (IsNotOnce left right → ⊥) → Has left right
once_back left right passes k name at = among_if left name (λ h. passes (left_lacks left right k name at h))

pub once_forth : (left right : List (List ℕ)) → (IsNotOnce left right → ⊥) → Has right left
once_forth left right passes k name at = among_if right name (λ h. passes (right_lacks left right k name at h))

-- a slot of a list of slots and names
abbrev pub slot_of : List ℕ × List ℕ → List ℕ
slot_of s = s.0

pub slot_at : (ss : List (List ℕ × List ℕ)) (k : ℕ) (slot name : List ℕ) → slice_get ss k ≡ Some (slot, name) → slice_get (map (λ (s : List ℕ × List ℕ). s.0) ss) k ≡ Some slot
slot_at [] k slot name at = absurd (none-some (slot, name) at)
slot_at (s ∷ ss) zero slot name at = ap (λ (p : List ℕ × List ℕ). Some p.0) (same_Some s (slot, name) at)
slot_at (s ∷ ss) (suc k) slot name at = slot_at ss k slot name at
