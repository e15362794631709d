-- The sizes of rows, by those of the children of their first alternatives.
use Rattle.std.proofs.Common.{◌≡◌, ℕ, zero, suc, ◌+◌, ◌*◌, ◌-◌, ◌<◌, ◌≤◌, List, [], ◌∷◌, ◌++◌, length, Option, Some, None, refl, sym, arith, subst, inl, inr, length-append}
use Rattle.std.proofs.Math.Seq.{get_or-append_seam}
use Rattle.std.proofs.lemmas.Bool.{cases_lt}
use Rattle.std.proofs.lemmas.List.{get_or_append_left}
use Rattle.std.specs.Prelude.{slice_get, slice_index_or, slice_range}
use Rattle.xs_gram.specs.declared.parts.GItem.{GItem}
use Rattle.xs_gram.specs.declared.parts.GItem.TheVariants.{Fixed, Term, Non, Skip}
use Rattle.xs_gram.specs.Grammar.{Grammar}
use Rattle.xs_gram.specs.Derivations.{Parts, done, fixed, leaf, skip, sub}
use Rattle.xs_chart_laws.proofs.Words.{get_lt, get_some}
use Rattle.xs_chart_laws.specs.Parts.{parts_then}
use Rattle.xs_forest.specs.declared.row.Alt.{Alt}
use Rattle.xs_forest.specs.Rows.{IsEarlier}
use Rattle.xs_tree.specs.Counts.{capped}
use Rattle.xs_forest_laws.specs.declared.span.SpanKey.{SpanKey}
use Rattle.xs_forest_laws.specs.declared.span.What.{What}
use Rattle.xs_forest_laws.specs.declared.span.What.TheVariants.{Whole, Front}
use Rattle.xs_forest_laws.specs.Forest.{Forest, key_of, alts_of, Unfolding, bare, pick, word_part, item_of, end_of, last_part, read_alt, read, IsRight}
use Rattle.xs_forest_laws.specs.First.{IsFirst}
use Rattle.xs_forest_laws.specs.Number.{count_of, IsCounted, At}
use Rattle.xs_forest_laws.proofs.First.{HasUnfolding, children_unfold}
use Rattle.xs_forest_laws.proofs.Number.{place_lt, place_one, alt_one, all_numbered, contains_of}
use Rattle.xs_listing.specs.Sizes.{spelt_count, word_count, size_at, item_count, last_count, IsSize, AreSizes}
use Rattle.xs_listing.proofs.Sizing.{dots_within}

pub count_then : (ps rs : Parts) → spelt_count (parts_then ps rs) ≡ spelt_count ps + spelt_count rs
count_then done rs = omega arith
count_then (fixed u ps) rs = count_then ps rs
count_then (leaf u ps) rs = omega (arith, count_then ps rs)
count_then (skip u ps) rs = omega (arith, count_then ps rs)
count_then (sub q qs ps) rs = omega (arith, count_then ps rs)

pub count_word : (item : GItem) (u : List ℕ) → spelt_count (word_part item u) ≡ word_count item
count_word (Fixed v) u = refl
count_word (Term t s) u = refl
count_word (Non n s) u = refl
count_word (Skip k) u = refl

few_words : (item : GItem) → word_count item ≤ 1
few_words (Fixed v) = omega arith
few_words (Term t s) = omega arith
few_words (Non n s) = omega arith
few_words (Skip k) = omega arith

-- what is spelt of a front's last item
last_size : (sizes : List ℕ) (item : GItem) (u : List ℕ) (o : Option ℕ) (rs : Parts) → size_at sizes o ≡ capped (spelt_count rs) → item_count item sizes o ≡ capped (spelt_count (last_part item u o rs))
last_size sizes item u None rs e = let n = count_word item u in let few = few_words item in omega arith
last_size sizes item u (Some r) rs e = e

alt_size : (g : Grammar) (w : List ℕ) (f : Forest) (sizes : List ℕ) (what : What) (k : SpanKey) (a : Alt) (ls rs : Parts) → ((p d : ℕ) → what ≡ Front p d → zero < d) → size_at sizes a.left ≡ capped (spelt_count ls) → size_at sizes a.right ≡ capped (spelt_count rs) → capped (size_at sizes a.left + last_count g sizes what a) ≡ capped (spelt_count (read_alt g w f what k a ls rs))
alt_size g w f sizes (Whole n) k a ls rs dots el er = omega arith
alt_size g w f sizes (Front p zero) k a ls rs dots el er = absurd (omega (arith, dots p zero refl))
alt_size g w f sizes (Front p (suc d)) k a ls rs dots el er =
    let u = slice_range w (end_of f k.start a.left) k.end in
    let before : suc d - 1 ≡ d = omega arith in
    let last : item_count (item_of g p (suc d - 1)) sizes a.right ≡ capped (spelt_count (last_part (item_of g p d) u a.right rs)) = subst (λ n. item_count (item_of g p n) sizes a.right ≡ capped (spelt_count (last_part (item_of g p d) u a.right rs))) (sym before) (last_size sizes (item_of g p d) u a.right rs er) in
    let both = count_then ls (last_part (item_of g p d) u a.right rs) in
    omega arith

module _ (g : Grammar) (w : List ℕ) (f : Forest) (right : IsRight g w f) (sizes : List ℕ) (are : AreSizes g w f sizes) where
  child_size : (o : Option ℕ) (u : Unfolding) → IsEarlier o (length sizes) → IsFirst f o u → size_at sizes o ≡ capped (spelt_count (read g w f o u))
  child_size None bare lt h = omega arith
  child_size None (pick a l t) lt h = absurd h
  child_size (Some r) u lt h = are r lt u h

  -- the size of a row by its first alternative
  pub row_size : (r : ℕ) (a : Alt) → IsEarlier a.left (length sizes) → IsEarlier a.right (length sizes) → slice_get (alts_of f r) 0 ≡ Some a → IsSize g w f r (capped (size_at sizes a.left + last_count g sizes (key_of f r).what a))
  row_size r a le re e bare h = absurd h
  row_size r a le re e (pick b l t) (lt, at, hl, ht) =
      let same : a ≡ b = cc in
      subst (λ (x : Alt). capped (size_at sizes a.left + last_count g sizes (key_of f r).what a) ≡ capped (spelt_count (read g w f (Some r) (pick x l t)))) same
      (alt_size g w f sizes (key_of f r).what (key_of f r) a (read g w f a.left l) (read g w f a.right t) (λ p d what. (dots_within g w f right r lt p d what).0)
      (child_size a.left l le (subst (λ (x : Alt). IsFirst f x.left l) (sym same) hl))
      (child_size a.right t re (subst (λ (x : Alt). IsFirst f x.right t) (sym same) ht)))

  -- a row without alternatives has no unfolding
  pub no_size : (r n : ℕ) → slice_get (alts_of f r) 0 ≡ None → IsSize g w f r n
  no_size r n e bare h = absurd h
  no_size r n e (pick b l t) (lt, at, hl, ht) = cc

  -- one more row
  pub next_size : (new : List ℕ) (row n : ℕ) → length sizes ≡ row → IsSize g w f row n → new ≡ sizes ++ n ∷ [] → AreSizes g w f new
  next_size new row n counted h grown = rw grown (λ r lt. elim (cases_lt r (length sizes)) [
    | inl old ↦ subst (λ x. IsSize g w f r x) (sym (get_or_append_left sizes (n ∷ []) 0 r old)) (are r old)
    | inr later ↦
        let long = length-append sizes (n ∷ []) in
        let here : length sizes ≡ r = omega arith in
        let last : IsSize g w f (length sizes) n = rw counted h in
        subst (λ z. IsSize g w f z (slice_index_or (sizes ++ n ∷ []) z 0)) here (subst (λ x. IsSize g w f (length sizes) x) (sym (get_or-append_seam sizes n [] 0)) last)
  ])

pub no_sizes : (g : Grammar) (w : List ℕ) (f : Forest) → AreSizes g w f []
no_sizes g w f r lt = absurd (omega arith)

module _ (g : Grammar) (w : List ℕ) (f : Forest) (right : IsRight g w f) (cap : ℕ) (cs : List ℕ) (counted : IsCounted f cap cs) (some : 1 ≤ cap) where
  -- what has an unfolding has a count
  some_count : (o : Option ℕ) → HasUnfolding g w f right o → 1 ≤ count_of cs o
  some_count o (u, h) = elim (cases_lt (count_of cs o) cap) [
    | inl lt ↦ let k = all_numbered g w f right cap cs counted o u h lt in omega (arith, k.1)
    | inr ge ↦ omega arith
  ]

  -- unfolding number 0 is that by first alternatives
  pub first_at : (o : Option ℕ) (k : ℕ) (u : Unfolding) → k ≡ 0 → At f cap cs o k u → IsFirst f o u
  first_at None k bare z h = tt
  first_at None k (pick a l t) z h = absurd h
  first_at (Some r) k bare z h = absurd h
  first_at (Some r) k (pick a l t) z (lt, n, x, y, e, by, bx, ek, hl, ht) =
      let there = get_lt (alts_of f r) n a e in
      let b = get_some (alts_of f r) 0 (omega arith) in
      let c = children_unfold g w f right r b.0 lt (contains_of (alts_of f r) 0 b.0 b.1) in
      let le = some_count b.0.left c.0 in
      let re = some_count b.0.right c.1 in
      let more = place_lt (count_of cs b.0.left) (count_of cs b.0.right) 0 0 le re in
      let one = alt_one cap cs (alts_of f r) n 0 a b.0 (x * count_of cs a.right + y) 0 e b.1 bx (omega arith) (omega arith) in
      let zeros = place_one (count_of cs a.right) x y 0 0 by (omega arith) (omega (arith, one.2)) in
      (lt, subst (λ m. slice_get (alts_of f r) m ≡ Some a) one.0 e, first_at a.left x l zeros.0 hl, first_at a.right y t zeros.1 ht)
