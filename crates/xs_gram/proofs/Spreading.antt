-- Spread items and partners, as they are found.
use Rattle.std.proofs.Common.{◌≡◌, ℕ, zero, suc, ◌+◌, ◌-◌, ◌<◌, ◌≤◌, List, [], ◌∷◌, ◌++◌, length, drop, get_or, reverse, refl, sym, ap, subst, ◌∙◌, arith, append_assoc, length-append, true, false, slice_get, Some}
use Rattle.std.proofs.lemmas.List.{reverse-append}
use Rattle.std.specs.declared.option.Option.{Option}
use Rattle.xs_gram.specs.declared.parts.GItem.{GItem}
use Rattle.xs_gram.specs.declared.parts.GItem.TheVariants.{Fixed, Term, Non, Skip}
use Rattle.xs_gram.specs.Fences.{is_fence, after_word, split_word, spread_items, spread}
use Rattle.xs_gram.specs.Grammar.{Grammar, items, fixed_symbols}
use Rattle.xs_gram.specs.Sound.{IsInRange}
use Rattle.xs_gram.specs.Building.{NamesAreThere}
use Rattle.xs_gram.specs.Spreading.{waiting, waiting_from, partner_from, partners}
use Rattle.xs_class.proofs.Lists.{some_inj}
use Rattle.xs_gram.proofs.Building.{drop_next}

after_more : (w : List ℕ) (is : List GItem) → after_word w is ≡ after_word w [] ++ is
after_more [] is = refl
after_more (s ∷ w) is = refl

pub after_longer : (w : List ℕ) (is js : List GItem) → after_word w (is ++ js) ≡ after_word w is ++ js
after_longer [] is js = refl
after_longer (s ∷ w) is js = refl

-- a split word before items
pub split_more : (fs : List (ℕ × ℕ)) (before w : List ℕ) (is : List GItem) → split_word fs before w is ≡ split_word fs before w [] ++ is
split_more fs before [] is = after_more before is
split_more fs before (s ∷ w) is =
    let t : after_word before (Fixed (s ∷ []) ∷ split_word fs [] w is) ≡ after_word before (Fixed (s ∷ []) ∷ split_word fs [] w []) ++ is = ap (λ (x : List GItem). after_word before (Fixed (s ∷ []) ∷ x)) (split_more fs [] w is) ∙ after_longer before (Fixed (s ∷ []) ∷ split_word fs [] w []) is in
    let f : split_word fs (before ++ s ∷ []) w is ≡ split_word fs (before ++ s ∷ []) w [] ++ is = split_more fs (before ++ s ∷ []) w is in
    elim (is_fence fs s) as (λ b. ◌≡◌ {A = List GItem} (elim b [ true ↦ after_word before (Fixed (s ∷ []) ∷ split_word fs [] w is) | false ↦ split_word fs (before ++ s ∷ []) w is ]) (elim b [ true ↦ after_word before (Fixed (s ∷ []) ∷ split_word fs [] w []) | false ↦ split_word fs (before ++ s ∷ []) w [] ] ++ is)) [ true ↦ t | false ↦ f ]

-- the fixed words of one more item are appended
pub fixed_spread : (fs : List (ℕ × ℕ)) (w : List ℕ) (item : GItem) (out old rest : List GItem) → item ≡ Fixed w → out ≡ old ++ split_word fs [] w [] → out ++ spread_items fs rest ≡ old ++ spread_items fs (item ∷ rest)
fixed_spread fs w item out old rest is e =
    ap (λ (x : List GItem). x ++ spread_items fs rest) e ∙ append_assoc old (split_word fs [] w []) (spread_items fs rest) ∙ ap (λ (x : List GItem). old ++ x) (sym (split_more fs [] w (spread_items fs rest))) ∙ ap (λ (i : GItem). old ++ spread_items fs (i ∷ rest)) (sym is)

-- from the last item to the first: what waits, and the partners that were found
before_last : (n done place : ℕ) → done < n → place ≡ n - 1 - done → (place < n) × (place ≡ n - (done + 1)) × (place + 1 ≡ n - done)
before_last n done place lt e = (omega arith, omega arith, omega arith)

pub waiting_step : (fs : List (ℕ × ℕ)) (items : List GItem) (done place : ℕ) (item : GItem) (old new : List ℕ) → done < length items → place ≡ length items - 1 - done → item ≡ get_or items place item → new ≡ waiting_from fs place item old → old ≡ waiting fs (length items - done) (drop (length items - done) items) → new ≡ waiting fs (length items - (done + 1)) (drop (length items - (done + 1)) items)
waiting_step fs items done place item old new lt at is e so_far =
    let h = before_last (length items) done place lt at in
    let here : old ≡ waiting fs (place + 1) (drop (place + 1) items) = so_far ∙ ap (λ (k : ℕ). waiting fs k (drop k items)) (sym h.2) in
    let opened : waiting fs place (drop place items) ≡ waiting_from fs place item (waiting fs (place + 1) (drop (place + 1) items)) = ap (λ (l : List GItem). waiting fs place l) (drop_next items place item h.0 is) in
    e ∙ ap (λ (l : List ℕ). waiting_from fs place item l) here ∙ sym opened ∙ ap (λ (k : ℕ). waiting fs k (drop k items)) h.1

pub partners_step : (fs : List (ℕ × ℕ)) (items : List GItem) (done place : ℕ) (item : GItem) (later : List ℕ) (partner : Option ℕ) (old new : List (Option ℕ)) → done < length items → place ≡ length items - 1 - done → item ≡ get_or items place item → partner ≡ partner_from fs item later → later ≡ waiting fs (length items - done) (drop (length items - done) items) → new ≡ old ++ partner ∷ [] → reverse old ≡ partners fs (length items - done) (drop (length items - done) items) → reverse new ≡ partners fs (length items - (done + 1)) (drop (length items - (done + 1)) items)
partners_step fs items done place item later partner old new lt at is e waits more so_far =
    let h = before_last (length items) done place lt at in
    let here : later ≡ waiting fs (place + 1) (drop (place + 1) items) = waits ∙ ap (λ (k : ℕ). waiting fs k (drop k items)) (sym h.2) in
    let rest : reverse old ≡ partners fs (place + 1) (drop (place + 1) items) = so_far ∙ ap (λ (k : ℕ). partners fs k (drop k items)) (sym h.2) in
    let opened : partners fs place (drop place items) ≡ partner_from fs item (waiting fs (place + 1) (drop (place + 1) items)) ∷ partners fs (place + 1) (drop (place + 1) items) = ap (λ (l : List GItem). partners fs place l) (drop_next items place item h.0 is) in
    let own : partner ≡ partner_from fs item (waiting fs (place + 1) (drop (place + 1) items)) = e ∙ ap (λ (l : List ℕ). partner_from fs item l) here in
    ap reverse more ∙ reverse-append old (partner ∷ []) ∙ both own rest ∙ sym opened ∙ ap (λ (k : ℕ). partners fs k (drop k items)) h.1
  where
    both : {x y : Option ℕ} {u v : List (Option ℕ)} → x ≡ y → u ≡ v → x ∷ u ≡ y ∷ v
    both p q = cc

-- how long spread items are
after_short : (w : List ℕ) (is : List GItem) → length (after_word w is) ≤ length w + length is
after_short [] is = omega arith
after_short (s ∷ w) is = omega arith

pub split_short : (fs : List (ℕ × ℕ)) (before w : List ℕ) (is : List GItem) → length (split_word fs before w is) ≤ length before + (length w + length is)
split_short fs before [] is = omega (arith, after_short before is)
split_short fs before (s ∷ w) is =
    let t : length (after_word before (Fixed (s ∷ []) ∷ split_word fs [] w is)) ≤ length before + (suc (length w) + length is) = omega (arith, after_short before (Fixed (s ∷ []) ∷ split_word fs [] w is), split_short fs [] w is) in
    let f : length (split_word fs (before ++ s ∷ []) w is) ≤ length before + (suc (length w) + length is) = omega (arith, split_short fs (before ++ s ∷ []) w is, length-append before (s ∷ [])) in
    elim (is_fence fs s) as (λ b. length {A = GItem} (elim b [ true ↦ after_word before (Fixed (s ∷ []) ∷ split_word fs [] w is) | false ↦ split_word fs (before ++ s ∷ []) w is ]) ≤ length before + (suc (length w) + length is)) [ true ↦ t | false ↦ f ]

pub spread_short : (fs : List (ℕ × ℕ)) (is : List GItem) → length (spread_items fs is) ≤ length is + fixed_symbols is
spread_short fs [] = omega arith
spread_short fs (Fixed w ∷ is) = omega (arith, split_short fs [] w (spread_items fs is), spread_short fs is)
spread_short fs (Term t s ∷ is) = omega (arith, spread_short fs is)
spread_short fs (Non n s ∷ is) = omega (arith, spread_short fs is)
spread_short fs (Skip k ∷ is) = omega (arith, spread_short fs is)

-- a spread item names what is there, as the items do, and no fixed word is empty
module _ (P : GItem → Type 0) where
  after_each : (w : List ℕ) (is : List GItem) (k : ℕ) (i : GItem) → ((f : List ℕ) → 0 < length f → P (Fixed f)) → ((k : ℕ) (i : GItem) → slice_get is k ≡ Some i → P i) → slice_get (after_word w is) k ≡ Some i → P i
  after_each [] is k i fixed each at = each k i at
  after_each (s ∷ w) is zero i fixed each at = subst P (some_inj (Fixed (s ∷ w)) i at) (fixed (s ∷ w) (omega arith))
  after_each (s ∷ w) is (suc k) i fixed each at = each k i at

  first_each : (s : ℕ) (is : List GItem) → ((f : List ℕ) → 0 < length f → P (Fixed f)) → ((k : ℕ) (i : GItem) → slice_get is k ≡ Some i → P i) → (k : ℕ) (i : GItem) → slice_get (Fixed (s ∷ []) ∷ is) k ≡ Some i → P i
  first_each s is fixed each zero i at = subst P (some_inj (Fixed (s ∷ [])) i at) (fixed (s ∷ []) (omega arith))
  first_each s is fixed each (suc k) i at = each k i at

  split_each : (fs : List (ℕ × ℕ)) (before w : List ℕ) (is : List GItem) → ((f : List ℕ) → 0 < length f → P (Fixed f)) → ((k : ℕ) (i : GItem) → slice_get is k ≡ Some i → P i) → (k : ℕ) (i : GItem) → slice_get (split_word fs before w is) k ≡ Some i → P i
  split_each fs before [] is fixed each = λ k i at. after_each before is k i fixed each at
  split_each fs before (s ∷ w) is fixed each =
      let t : (k : ℕ) (i : GItem) → slice_get (after_word before (Fixed (s ∷ []) ∷ split_word fs [] w is)) k ≡ Some i → P i = λ k i at. after_each before (Fixed (s ∷ []) ∷ split_word fs [] w is) k i fixed (first_each s (split_word fs [] w is) fixed (split_each fs [] w is fixed each)) at in
      let f = split_each fs (before ++ s ∷ []) w is fixed each in
      elim (is_fence fs s) as (λ b. (k : ℕ) (i : GItem) → slice_get {X = GItem} (elim b [ true ↦ after_word before (Fixed (s ∷ []) ∷ split_word fs [] w is) | false ↦ split_word fs (before ++ s ∷ []) w is ]) k ≡ Some i → P i) [ true ↦ t | false ↦ f ]

  one_more : (x : GItem) (is : List GItem) → P x → ((k : ℕ) (i : GItem) → slice_get is k ≡ Some i → P i) → (k : ℕ) (i : GItem) → slice_get (x ∷ is) k ≡ Some i → P i
  one_more x is own each zero i at = subst P (some_inj x i at) own
  one_more x is own each (suc k) i at = each k i at

  pub spread_each : (fs : List (ℕ × ℕ)) (is : List GItem) → ((f : List ℕ) → 0 < length f → P (Fixed f)) → ((k : ℕ) (i : GItem) → slice_get is k ≡ Some i → P i) → (k : ℕ) (i : GItem) → slice_get (spread_items fs is) k ≡ Some i → P i
  spread_each fs [] fixed each = each
  spread_each fs (Fixed w ∷ is) fixed each = split_each fs [] w (spread_items fs is) fixed (spread_each fs is fixed (λ k i at. each (suc k) i at))
  spread_each fs (Term t s ∷ is) fixed each = one_more (Term t s) (spread_items fs is) (each 0 (Term t s) refl) (spread_each fs is fixed (λ k i at. each (suc k) i at))
  spread_each fs (Non n s ∷ is) fixed each = one_more (Non n s) (spread_items fs is) (each 0 (Non n s) refl) (spread_each fs is fixed (λ k i at. each (suc k) i at))
  spread_each fs (Skip n ∷ is) fixed each = one_more (Skip n) (spread_items fs is) (each 0 (Skip n) refl) (spread_each fs is fixed (λ k i at. each (suc k) i at))

pub spread_names : (g : Grammar) → IsInRange g → (p k : ℕ) (i : GItem) → slice_get (spread g p) k ≡ Some i → NamesAreThere g i
spread_names g range p = spread_each (NamesAreThere g) g.fences (items g p) (λ f lt. lt) named
  where
    named : (k : ℕ) (i : GItem) → slice_get (items g p) k ≡ Some i → NamesAreThere g i
    named k (Fixed f) at = range.words p k f at
    named k (Term t s) at = range.terms p k t s at
    named k (Non n s) at = range.nons p k n s at
    named k (Skip n) at = range.skips p k n at
