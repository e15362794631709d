-- The class of a set of characters.
use Rattle.std.proofs.Common.{◌≡◌, ◌∙◌, ◌≤◌, ◌⊎◌, ◌||◌, inl, inr, sym, refl, ℕ, List, [], ◌∷◌, Bool, true, false, leb, arith}
use Rattle.std.proofs.lemmas.Bool.{leb-true, le-leb}
use Rattle.ucd_table.specs.Rows.{in_ranges, is_range, HasExactly, AreRanges}
use Rattle.ucd_sets.specs.Sets.{in_set}
use Rattle.ucd_sets.specs.declared.set.Set.{Set}
use Rattle.std.specs.List.{list_all}
use Rattle.xs_class.specs.Classes.{Has, HaveSame}
use Rattle.xs_class.specs.Named.{HasMembersOf}
use Rattle.xs_class.proofs.Truth.{and_true, both_true, or_right, or_left}

some_true : (a b : Bool) (P Q : Type 0) → (a ≡ true → P) → (b ≡ true → Q) → (a || b) ≡ true → P ⊎ Q
some_true true b P Q f g h = inl (f refl)
some_true false b P Q f g h = inr (g h)

pub tested_has : (rs : List (ℕ × ℕ)) (s : ℕ) → in_ranges rs s ≡ true → Has rs s
unfolding in_ranges
tested_has [] s t = cc
tested_has (r ∷ rs) s t =
    some_true _ _ ((r.0 ≤ s) × (s ≤ r.1)) (Has rs s) (λ k. let both = and_true _ _ k in (leb-true _ _ both.0, leb-true _ _ both.1)) (tested_has rs s) t

pub has_tested : (rs : List (ℕ × ℕ)) (s : ℕ) → Has rs s → in_ranges rs s ≡ true
unfolding in_ranges
has_tested [] s h = absurd h
has_tested (r ∷ rs) s (inl h) = or_left _ _ (both_true _ _ (le-leb _ _ h.0) (le-leb _ _ h.1))
has_tested (r ∷ rs) s (inr h) = or_right _ _ (has_tested rs s h)

-- the members of ranges of Unicode are code points
pub ranges_bound : (rs : List (ℕ × ℕ)) (s : ℕ) → AreRanges rs → Has rs s → s ≤ 0x10FFFF
ranges_bound [] s valid h = absurd h
ranges_bound (r ∷ rs) s valid (inl h) =
    let parts = and_true (is_range r) (list_all is_range rs) valid in
    let end : r.1 ≤ 0x10FFFF = leb-true r.1 0x10FFFF (and_true (leb r.0 r.1) (leb r.1 0x10FFFF) parts.0).1 in omega (arith, h.1)
ranges_bound (r ∷ rs) s valid (inr h) = ranges_bound rs s (and_true _ _ valid).1 h

pub members_of_set : (ranges c : List (ℕ × ℕ)) (set : Set) → HasExactly ranges (in_set set) → AreRanges ranges → HaveSame c ranges → HasMembersOf c set
members_of_set ranges c set exact valid same s = (
  λ h. let there = (same s).0 h in
      let bound = ranges_bound ranges s valid there in
      (bound, sym (exact s bound) ∙ has_tested ranges s there),
  λ h. (same s).1 (tested_has ranges s (exact s h.0 ∙ h.1)),
)
