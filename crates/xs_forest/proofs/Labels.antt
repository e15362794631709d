-- What a map's look-ups of a label say of the rows.
use Rattle.std.proofs.Common.{◌≡◌, ℕ, zero, suc, ◌-◌, ◌<◌, Bool, true, false, cond, List, [], ◌∷◌, get_or, length, slice_get, position, Some, is_some, sym, ◌∙◌, ap, true≢false, arith}
use Rattle.std.specs.Borrow.{Bor}
use Rattle.std.specs.List.{IsDistinct}
use Rattle.std.specs.Map.{lookup, keys_of}
use Rattle.std.proofs.lemmas.Option.{none-some, same_Some, slice_get-get_or, slice_get_within, get_or_from_slice_get}
use Rattle.std.proofs.lemmas.List.Quantifiers.{position-Some}
use Rattle.std.proofs.lemmas.Map.Keys.{apart_from_distinct}
use Rattle.xs_forest.specs.declared.row.Alt.{Alt}
use Rattle.xs_forest.specs.Rows.{rows_of, HasLabel, AreOnce}

module _ {L : Type 0} where
  -- the keys are the rows' labels
  key_at : (entries : List (L × Bor (List Alt))) (at : ℕ) (label : L) → HasLabel (rows_of entries) at label → slice_get (keys_of entries) at ≡ Some label
  key_at [] at label has = absurd (none-some _ has.1)
  key_at (e ∷ entries) zero label has = ap (λ p. Some p.0) (same_Some _ _ has.1)
  key_at (e ∷ entries) (suc at) label has = key_at entries at label has

  keys_get : (entries : List (L × Bor (List Alt))) (at : ℕ) (key : L) (alts : Bor (List Alt)) → slice_get entries at ≡ Some (key, alts) → slice_get (keys_of entries) at ≡ Some key
  keys_get [] at key alts is = absurd (none-some _ is)
  keys_get (e ∷ entries) zero key alts is = ap (λ p. Some p.0) (same_Some _ _ is)
  keys_get (e ∷ entries) (suc at) key alts is = keys_get entries at key alts is

  row_at : (entries : List (L × Bor (List Alt))) (at : ℕ) (label : L) → slice_get (keys_of entries) at ≡ Some label → HasLabel (rows_of entries) at label
  row_at [] at label is = absurd (none-some _ is)
  row_at (e ∷ entries) zero label is = (e.1.now, ap (λ l. Some (l, e.1.now)) (same_Some _ _ is))
  row_at (e ∷ entries) (suc at) label is = row_at entries at label is

module _ {L : Type 0} (eq : L → L → Bool) (itself : (x : L) → eq x x ≡ true) where
  apart : (entries : List (L × Bor (List Alt))) (label : L) (j k : ℕ) → IsDistinct eq (keys_of entries) → HasLabel (rows_of entries) j label → HasLabel (rows_of entries) k label → j < k → ⊥
  apart entries label j k distinct at_j at_k lt =
      let keys = keys_of entries in
      let here = get_or_from_slice_get keys j label label (key_at entries j label at_j) in
      let there = get_or_from_slice_get keys k label label (key_at entries k label at_k) in
      let other = apart_from_distinct eq keys j k label distinct lt (slice_get_within keys k label (key_at entries k label at_k)) in
      true≢false (sym (itself label) ∙ sym (ap (λ l. eq l label) here) ∙ sym (ap (λ l. eq (get_or keys j label) l) there) ∙ other)

  -- no two rows have one label
  pub once : (entries : List (L × Bor (List Alt))) → IsDistinct eq (keys_of entries) → AreOnce (rows_of entries)
  once entries distinct j k label at_j at_k =
      let before : j < k → ⊥ = apart entries label j k distinct at_j at_k in
      let after : k < j → ⊥ = apart entries label k j distinct at_k at_j in
      omega arith

  -- where the look-up finds nothing, no row has the label
  pub none_has : (entries : List (L × Bor (List Alt))) (label : L) → is_some (lookup (eq label) entries) ≡ false → (at : ℕ) → HasLabel (rows_of entries) at label → ⊥
  none_has [] label none at has = none-some _ has.1
  none_has (e ∷ entries) label none zero has =
      let is : e.0 ≡ label = ap (λ p. p.0) (same_Some _ _ has.1) in
      true≢false (sym (ap (λ b. is_some (cond b (Some e.1) (lookup (eq label) entries))) (ap (eq label) is ∙ itself label)) ∙ none)
  none_has (e ∷ entries) label none (suc at) has = by (eq label e.0) none (λ later. none_has entries label later at has)
    where
      by : (b : Bool) → is_some (cond b (Some e.1) (lookup (eq label) entries)) ≡ false → (is_some (lookup (eq label) entries) ≡ false → ⊥) → ⊥
      by true found rest = true≢false found
      by false later rest = rest later

  -- where it finds a place, exactly that row has the label
  pub found_has : (same : (x y : L) → eq x y ≡ true → x ≡ y) (entries : List (L × Bor (List Alt))) (label : L) (at : ℕ) → position (eq label) (keys_of entries) ≡ Some at → HasLabel (rows_of entries) at label
  found_has same entries label at found =
      let keys = keys_of entries in
      let there = position-Some (eq label) keys at label found in
      row_at entries at label (slice_get-get_or keys at label there.0 ∙ ap (λ l. Some l) (sym (same label (get_or keys at label) there.1)))

  -- the last entry's label is that of the last row
  pub last_has : (same : (x y : L) → eq x y ≡ true → x ≡ y) (entries : List (L × Bor (List Alt))) (label key : L) (alts : Bor (List Alt)) → slice_get entries (length entries - 1) ≡ Some (key, alts) → eq key label ≡ true → HasLabel (rows_of entries) (length entries - 1) label
  last_has same entries label key alts is equal = row_at entries (length entries - 1) label (keys_get entries (length entries - 1) key alts is ∙ ap (λ l. Some l) (same key label equal))
