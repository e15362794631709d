-- How many marks end before each place, and where a label's marks stand.
use Rattle.std.proofs.Common.{◌≡◌, ℕ, ◌+◌, ◌-◌, ◌<◌, ◌≤◌, List, length, take, drop, slice_get, Option, None, Some, refl, sym, ap, ◌∙◌, arith, inl, inr}
use Rattle.std.specs.Prelude.{unwrap_or}
use Rattle.std.proofs.lemmas.Bool.{cases_lt}
use Rattle.std.proofs.lemmas.List.{length-take}
use Rattle.std.proofs.lemmas.Option.{none-some}
use Rattle.xs_class.proofs.Lists.{get_taken, get_drop}
use Rattle.xs_chart_laws.proofs.Words.{get_some}
use Rattle.xs_forest_laws.specs.declared.span.SpanKey.{SpanKey}
use Rattle.xs_grow.specs.Sorted.{EndBefore, AreFirsts, first_of}

abbrev Mark : Type 0
Mark = SpanKey × ℕ

-- these end before it
module _ (marks : List Mark) (firsts : List ℕ) (h : AreFirsts marks (length marks) firsts) where
  abbrev all : ℕ
  all = length marks

  there : (end : ℕ) → end < length firsts → slice_get firsts end ≡ None → ⊥
  there end lt e = let some = get_some firsts end lt in none-some some.0 (sym e ∙ some.1)

  before_of : (end : ℕ) (o : Option ℕ) → slice_get firsts end ≡ o → EndBefore marks (unwrap_or o all) end
  before_of end (Some first) e k x lt at = h.before end first e k x lt at
  before_of end None e k x lt at = elim (cases_lt end (length firsts)) [
    | inl within ↦ absurd (there end within e)
    | inr past ↦ let less = h.ended k x lt at in omega (arith, past)
  ]

  pub first_before : (end : ℕ) → EndBefore marks (first_of firsts end all) end
  first_before end = before_of end (slice_get firsts end) refl

-- where the first marks end before the label, and the next ones come before it
pub none_earlier : (marks : List Mark) (label : SpanKey) (first n r : ℕ) → EndBefore marks first label.end → r ≤ length (take n (drop first marks)) → ((k q : ℕ) → k < r → slice_get (take n (drop first marks)) k ≡ Some (label, q) → ⊥) → (k q : ℕ) → k < first + r → slice_get marks k ≡ Some (label, q) → ⊥
none_earlier marks label first n r ended within none k q lt at = elim (cases_lt k first) [
  | inl early ↦ let less = ended k (label, q) early at in absurd (omega arith)
  | inr late ↦
      let long = length-take n (drop first marks) in
      let is : first + (k - first) ≡ k = omega (arith, late) in
      let here : slice_get (drop first marks) (k - first) ≡ Some (label, q) = get_drop marks first (k - first) ∙ (ap (λ z. slice_get marks z) is ∙ at) in
      none (k - first) q (omega (arith, lt)) (get_taken (drop first marks) n (k - first) (label, q) (omega (arith, lt, within, long)) here)
]
