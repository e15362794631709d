-- The numbers of a label are those that its marks have, or follow from its stretch.
use Rattle.std.proofs.Common.{◌≡◌, ℕ, suc, ◌+◌, ◌<◌, ◌≤◌, List, [], ◌∷◌, length, refl, sym, ap, ◌∙◌, subst, arith}
use Rattle.std.specs.Prelude.{Contains, slice_range}
use Rattle.std.proofs.lemmas.Option.{same_Some}
use Rattle.xs_gram.specs.declared.parts.GItem.{GItem}
use Rattle.xs_gram.specs.declared.parts.GItem.TheVariants.{Fixed}
use Rattle.xs_gram.specs.declared.places.Place.{Place}
use Rattle.xs_gram.specs.Grammar.{Grammar, items, ItemAt}
use Rattle.xs_gram.specs.Derivations.{parts_yield}
use Rattle.xs_gram.specs.Places.{at_dot}
use Rattle.xs_chart_laws.specs.Reading.{Reads}
use Rattle.xs_chart_laws.proofs.Words.{get_some, Reads-split, Reads-is}
use Rattle.xs_chart_laws.proofs.Spelling.{Spells-less}
use Rattle.xs_chart_laws.proofs.Standing.{stood, stood_reads}
use Rattle.xs_forest_laws.specs.declared.span.SpanKey.{SpanKey}
use Rattle.xs_forest_laws.specs.declared.span.What.{What}
use Rattle.xs_forest_laws.specs.declared.span.What.TheVariants.{Whole, Front}
use Rattle.xs_forest_laws.specs.Forest.{key_at}
use Rattle.xs_forest_laws.specs.Grown.{IsExactChart, ItemOver}
use Rattle.xs_forest_laws.proofs.Grows.{spelt_over}
use Rattle.xs_forest_laws.proofs.Placed.{empty_at}
use Rattle.xs_grow.specs.Lists.{HasAllOf, Appends}
use Rattle.xs_grow.specs.Candidates.{Candidate, WholeCandidate, FrontCandidate, IsSearched}
use Rattle.xs_grow.specs.Making.{stands_at, IsLabel, IsNumberOf, AreNumbersOf}
use Rattle.xs_grow.proofs.ListLemmas.{all_one, all_same, appends_all}

module _ (g : Grammar) (w : List ℕ) where
  abbrev has : ℕ → Place → ℕ → Type 0
  has = stands_at g w

  pub exact : IsExactChart g w has
  exact = record { sound = λ c i j h. h; complete = λ c i j h. h }

  abbrev Number : SpanKey → ℕ → Type 0
  Number key n = IsNumberOf g w has key.what key.start key.end n

  -- what stands after an item stands before it, and the item is over the stretch between
  front_split : (p d i j : ℕ) → has j (at_dot p (suc d)) i → (m : ℕ) × IsNumberOf g w has (Front p (suc d)) i j m
  front_split p d i j st =
      let within : suc d ≤ length (items g p) = st.5.0 in
      let item = get_some (items g p) d (omega arith) in
      let u = slice_range w i j in
      let s = Spells-less g p d u item.0 item.1 st.5 in
      let r = Reads-split w i s.0 (parts_yield s.1) j (subst (λ z. Reads w i z j) s.4 (stood_reads g w (at_dot p (suc d)) i j st)) in
      let st' = stood g w (at_dot p d) st.0 i r.0 s.0 st.1 st.2 r.1 s.2 in
      (r.0, (item.0, item.1, st', spelt_over g w has exact p d i r.0 j item.0 st' item.1 (s.1, (s.3, r.2))))

  -- the numbers that the marks have
  marked : (P : Candidate → Type 0) (key : SpanKey) (marks : List Candidate) (numbers : List ℕ) → ((n : ℕ) → P (key, n) → Number key n) → ((n : ℕ) → Number key n → P (key, n)) → HasAllOf P marks → Appends (λ n. Contains marks (key, n)) [] numbers → AreNumbersOf g w key numbers
  marked P key marks numbers to from all appended = all_same (λ n. Contains marks (key, n)) (Number key) numbers (λ n c. to n (all.sound (key, n) c)) (λ n h. all.complete (key, n) (from n h)) (appends_all (λ n. Contains marks (key, n)) numbers appended)

  pub whole_numbers : (n i j : ℕ) (marks : List Candidate) (numbers : List ℕ) → HasAllOf (WholeCandidate g has) marks → Appends (λ q. Contains marks (key_at (Whole n) i j, q)) [] numbers → AreNumbersOf g w (key_at (Whole n) i j) numbers
  whole_numbers n i j marks numbers all appended = marked (WholeCandidate g has) (key_at (Whole n) i j) marks numbers
      (λ q h. subst (λ (z : Candidate). Number z.0 z.1) (sym h.is) (h.of, h.ended))
      (λ q h. record { non = n; rule = q; start = i; end = j; is = refl; of = h.0; ended = h.1 })
      all
      appended

  pub split_numbers : (p d i j : ℕ) (item : GItem) (marks : List Candidate) (numbers : List ℕ) → 0 < d → ItemAt g p d item → IsSearched item → HasAllOf (FrontCandidate g w has) marks → Appends (λ m. Contains marks (key_at (Front p (suc d)) i j, m)) [] numbers → AreNumbersOf g w (key_at (Front p (suc d)) i j) numbers
  split_numbers p d i j item marks numbers later at searched all appended = marked (FrontCandidate g w has) (key_at (Front p (suc d)) i j) marks numbers
      (λ m h. subst (λ (z : Candidate). Number z.0 z.1) (sym h.is) (h.item, h.at, h.before, h.last))
      (λ m (other, at', before, last). record { rule = p; dot = d; start = i; end = j; split = m; item = other; is = refl; later = later; searched = subst IsSearched (same_Some item other (sym at ∙ at')) searched; at = at'; before = before; last = last })
      all
      appended

  -- the first item begins where the stretch does
  pub first_number : (p i j : ℕ) → IsLabel g w (key_at (Front p 1) i j) → AreNumbersOf g w (key_at (Front p 1) i j) (i ∷ [])
  first_number p i j label =
      let s = front_split p 0 i j label.1 in
      let here : i ≡ s.0 = empty_at g w has exact p i s.0 s.1.2 in
      all_one (IsNumberOf g w has (Front p 1) i j) i (subst (λ z. IsNumberOf g w has (Front p 1) i j z) (sym here) s.1) (λ m h. empty_at g w has exact p i m h.2)

  -- a fixed word begins as far before the end as it is long
  fixed_split : (p d i j m : ℕ) (v : List ℕ) → ItemAt g p d (Fixed v) → IsNumberOf g w has (Front p (suc d)) i j m → j ≡ m + length v
  fixed_split p d i j m v at (item, at', before, last) = Reads-is w m v j (subst (λ z. ItemOver g w has z m j) (same_Some item (Fixed v) (sym at' ∙ at)) last)

  pub fixed_within : (p d i j : ℕ) (v : List ℕ) → ItemAt g p d (Fixed v) → IsLabel g w (key_at (Front p (suc d)) i j) → length v ≤ j
  fixed_within p d i j v at label = let s = front_split p d i j label.1 in let e = fixed_split p d i j s.0 v at s.1 in omega arith

  pub fixed_number : (p d i j : ℕ) (v : List ℕ) (number : ℕ) → ItemAt g p d (Fixed v) → IsLabel g w (key_at (Front p (suc d)) i j) → number + length v ≡ j → AreNumbersOf g w (key_at (Front p (suc d)) i j) (number ∷ [])
  fixed_number p d i j v number at label e =
      let s = front_split p d i j label.1 in
      let is = fixed_split p d i j s.0 v at s.1 in
      let here : number ≡ s.0 = omega arith in
      all_one (IsNumberOf g w has (Front p (suc d)) i j) number (subst (λ z. IsNumberOf g w has (Front p (suc d)) i j z) (sym here) s.1) (λ m h. let is' = fixed_split p d i j m v at h in omega arith)

  -- the same for a label that is known by what it is of
  module _ (key : SpanKey) (numbers : List ℕ) where
    pub whole_of : (n : ℕ) (marks : List Candidate) → key.what ≡ Whole n → HasAllOf (WholeCandidate g has) marks → Appends (λ q. Contains marks (key, q)) [] numbers → AreNumbersOf g w key numbers
    whole_of n marks e all appended = subst (λ (z : What). AreNumbersOf g w (key_at z key.start key.end) numbers) (sym e) (whole_numbers n key.start key.end marks numbers all (subst (λ (z : What). Appends (λ q. Contains marks (key_at z key.start key.end, q)) [] numbers) e appended))

    module _ (p dot : ℕ) (e : key.what ≡ Front p dot) (label : IsLabel g w key) where
      front : (d : ℕ) → suc d ≡ dot → key.what ≡ Front p (suc d)
      front d s = e ∙ ap (λ z. Front p z) (sym s)

      to : (d : ℕ) → suc d ≡ dot → AreNumbersOf g w (key_at (Front p (suc d)) key.start key.end) numbers → AreNumbersOf g w key numbers
      to d s h = subst (λ (z : What). AreNumbersOf g w (key_at z key.start key.end) numbers) (sym (front d s)) h

      labelled : (d : ℕ) → suc d ≡ dot → IsLabel g w (key_at (Front p (suc d)) key.start key.end)
      labelled d s = subst (λ (z : What). IsLabel g w (key_at z key.start key.end)) (front d s) label

      pub first_of : dot ≡ 1 → numbers ≡ key.start ∷ [] → AreNumbersOf g w key numbers
      first_of one is = to 0 (sym one) (subst (λ (z : List ℕ). AreNumbersOf g w (key_at (Front p 1) key.start key.end) z) (sym is) (first_number p key.start key.end (labelled 0 (sym one))))

      pub fixed_before : (d : ℕ) (v : List ℕ) → suc d ≡ dot → ItemAt g p d (Fixed v) → length v ≤ key.end
      fixed_before d v s at = fixed_within p d key.start key.end v at (labelled d s)

      pub fixed_of : (d number : ℕ) (v : List ℕ) → suc d ≡ dot → ItemAt g p d (Fixed v) → number + length v ≡ key.end → numbers ≡ number ∷ [] → AreNumbersOf g w key numbers
      fixed_of d number v s at long is = to d s (subst (λ (z : List ℕ). AreNumbersOf g w (key_at (Front p (suc d)) key.start key.end) z) (sym is) (fixed_number p d key.start key.end v number at (labelled d s) long))

      pub split_of : (d : ℕ) (item : GItem) (marks : List Candidate) → suc d ≡ dot → 0 < d → ItemAt g p d item → IsSearched item → HasAllOf (FrontCandidate g w has) marks → Appends (λ m. Contains marks (key, m)) [] numbers → AreNumbersOf g w key numbers
      split_of d item marks s later at searched all appended = to d s (split_numbers p d key.start key.end item marks numbers later at searched all (subst (λ (z : What). Appends (λ m. Contains marks (key_at z key.start key.end, m)) [] numbers) (front d s) appended))
