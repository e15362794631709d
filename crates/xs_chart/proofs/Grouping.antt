-- Entries of waiting lists that are grouped by their nonterminals.
use Rattle.std.proofs.Common.{◌≡◌, ◌≢◌, ℕ, zero, suc, ◌-◌, ◌<◌, ◌≤◌, Bool, true, false, cond, if◌then◌else◌, List, [], ◌∷◌, ◌++◌, length, map, filter, take, drop, get_or, slice_range, inl, inr, Some, slice_get, refl, sym, ◌∙◌, ap, arith}
use Rattle.std.specs.Prelude.{nat_eq, nat_lt, not, ◌&&◌}
use Rattle.std.specs.List.Sorted.{ties, IsStableByKey, IsPartitionPoint, IsNonDecreasingBy}
use Rattle.std.specs.declared.cmp.Ordering.{Ordering}
use Rattle.std.specs.declared.cmp.Ordering.TheVariants.{Less, Equal, Greater}
use Rattle.std.specs.Ordering.{is_lt, nat_cmp, MatchOrdering}
use Rattle.std.specs.Cmp.{ranks}
use Rattle.std.proofs.lemmas.Bool.{cases_eq, eq-eqb, eqb-true, ne_eqb, ltb-true, ltb-false}
use Rattle.std.proofs.lemmas.List.{map-append}
use Rattle.std.proofs.lemmas.List.Elements.{filter-append}
use Rattle.xs_chart.specs.declared.waiting.Waiter.{Waiter}
use Rattle.xs_chart.specs.Charted.{waiting_for, number_of, non_of, put_first, grouped}

ties_at : (o p : Ordering) (a b : ℕ) → MatchOrdering o (a < b) (a ≡ b) (b < a) → MatchOrdering p (b < a) (b ≡ a) (a < b) → (not (is_lt o) && not (is_lt p)) ≡ nat_eq a b
ties_at Less p a b h k = sym (ne_eqb a b (λ e. omega (arith, h, e)))
ties_at Equal Less a b h k = absurd (omega (arith, h, k))
ties_at Equal Equal a b h k = sym (eq-eqb a b h)
ties_at Equal Greater a b h k = absurd (omega (arith, h, k))
ties_at Greater Less a b h k = sym (ne_eqb a b (λ e. omega (arith, h, e)))
ties_at Greater Equal a b h k = absurd (omega (arith, h, k))
ties_at Greater Greater a b h k = absurd (omega (arith, h, k))

filter_same : {A : Type 0} (p q : A → Bool) → ((x : A) → p x ≡ q x) → (xs : List A) → filter p xs ≡ filter q xs
filter_same p q h [] = refl
filter_same p q h (x ∷ xs) = ap (λ b. cond b (x ∷ filter p xs) (filter p xs)) (h x) ∙ ap (λ r. cond (q x) (x ∷ r) r) (filter_same p q h xs)

abbrev tied : Waiter → Waiter → Bool
tied = ties (λ x y. is_lt (nat_cmp (non_of x) (non_of y)))

-- what tells the entries of a nonterminal
abbrev of : ℕ → Waiter → Bool
of non w = nat_eq non w.non

-- a sort by the nonterminals keeps the entries of each
filter_sorted : (old new : List Waiter) → IsStableByKey non_of nat_cmp old new → (non : ℕ) → filter (of non) new ≡ filter (of non) old
filter_sorted old new stable non =
    let one : Waiter = record { non = non; number = 0 } in
    let test = filter_same (tied one) (of non) (λ w. ties_at (nat_cmp non w.non) (nat_cmp w.non non) non w.non (ranks non w.non) (ranks w.non non)) in
    sym (test new) ∙ stable one ∙ test old

apart : (p q : Bool) → (p ≡ true → q ≡ true → ⊥) → (x y : Waiter) (rest : List Waiter) → cond p (x ∷ cond q (y ∷ rest) rest) (cond q (y ∷ rest) rest) ≡ cond q (y ∷ cond p (x ∷ rest) rest) (cond p (x ∷ rest) rest)
apart true true never x y rest = absurd (never refl refl)
apart true false never x y rest = refl
apart false true never x y rest = refl
apart false false never x y rest = refl

-- an entry that is put before those of its nonterminal is the first of them
filter_put : (non : ℕ) (w : Waiter) (xs : List Waiter) → filter (of non) (put_first w xs) ≡ filter (of non) (w ∷ xs)
filter_put non w [] = refl
filter_put non w (x ∷ xs) = by (nat_lt x.non w.non) refl (filter_put non w xs)
  where
    by : (b : Bool) → nat_lt x.non w.non ≡ b → filter (of non) (put_first w xs) ≡ filter (of non) (w ∷ xs) → filter (of non) (if b then x ∷ put_first w xs else w ∷ x ∷ xs) ≡ filter (of non) (w ∷ x ∷ xs)
    by true less rest =
        ap (λ r. cond (of non x) (x ∷ r) r) rest
        ∙ apart (of non x) (of non w) (λ p q. omega (arith, ltb-true x.non w.non less, eqb-true non x.non p, eqb-true non w.non q)) x w (filter (of non) xs)
    by false least rest = refl

filter_grouped : (non : ℕ) (waits : List Waiter) → filter (of non) (grouped waits) ≡ filter (of non) waits
filter_grouped non [] = refl
filter_grouped non (w ∷ waits) = filter_put non w (grouped waits) ∙ ap (λ r. cond (of non w) (w ∷ r) r) (filter_grouped non waits)

-- each waiting list is among the grouped entries as it was
pub waiting_grouped : (waits : List Waiter) (non : ℕ) → waiting_for (grouped waits) non ≡ waiting_for waits non
waiting_grouped waits non = ap (map number_of) (filter_grouped non waits)

-- no entry is of a nonterminal below this number
abbrev AtLeast : ℕ → List Waiter → Type 0
AtLeast n [] = Unit {0}
AtLeast n (x ∷ xs) = (n ≤ x.non) × AtLeast n xs

-- and none of one below that of an entry before it
abbrev Rises : List Waiter → Type 0
Rises [] = Unit {0}
Rises (x ∷ xs) = AtLeast x.non xs × Rises xs

less_too : (m n : ℕ) (xs : List Waiter) → m ≤ n → AtLeast n xs → AtLeast m xs
less_too m n [] le h = tt
less_too m n (x ∷ xs) le h = (omega (arith, le, h.0), less_too m n xs le h.1)

put_at_least : (n : ℕ) (w : Waiter) (xs : List Waiter) → n ≤ w.non → AtLeast n xs → AtLeast n (put_first w xs)
put_at_least n w [] le h = (le, tt)
put_at_least n w (x ∷ xs) le h = by (nat_lt x.non w.non) (put_at_least n w xs le h.1)
  where
    by : (b : Bool) → AtLeast n (put_first w xs) → AtLeast n (if b then x ∷ put_first w xs else w ∷ x ∷ xs)
    by true rest = (h.0, rest)
    by false rest = (le, h)

put_rises : (w : Waiter) (xs : List Waiter) → Rises xs → Rises (put_first w xs)
put_rises w [] r = (tt, tt)
put_rises w (x ∷ xs) r = by (nat_lt x.non w.non) refl (put_rises w xs r.1)
  where
    by : (b : Bool) → nat_lt x.non w.non ≡ b → Rises (put_first w xs) → Rises (if b then x ∷ put_first w xs else w ∷ x ∷ xs)
    by true less rest = (let lt = ltb-true x.non w.non less in put_at_least x.non w xs (omega (arith, lt)) r.0, rest)
    by false least rest = let le = ltb-false x.non w.non least in ((le, less_too w.non x.non xs le r.0), r)

rises_grouped : (waits : List Waiter) → Rises (grouped waits)
rises_grouped [] = tt
rises_grouped (w ∷ waits) = put_rises w (grouped waits) (rises_grouped waits)

at_least_from : (n : ℕ) (xs : List Waiter) → ((k : ℕ) (d : Waiter) → k < length xs → n ≤ non_of (get_or xs k d)) → AtLeast n xs
at_least_from n [] h = tt
at_least_from n (x ∷ xs) h = (h 0 x (omega arith), at_least_from n xs (λ k d lt. h (suc k) d (omega (arith, lt))))

rises_from : (xs : List Waiter) → IsNonDecreasingBy non_of xs → Rises xs
rises_from [] h = tt
rises_from (x ∷ xs) h = (
  at_least_from x.non xs (λ k d lt. h 0 (suc k) d (omega arith) (omega (arith, lt))),
  rises_from xs (λ i j d le lt. h (suc i) (suc j) d (omega (arith, le)) (omega (arith, lt))),
)

none_below : (n : ℕ) (xs : List Waiter) → AtLeast (suc n) xs → filter (of n) xs ≡ []
none_below n [] h = refl
none_below n (x ∷ xs) h = ap (λ b. cond b (x ∷ filter (of n) xs) (filter (of n) xs)) (ne_eqb n x.non (λ e. omega (arith, h.0, e))) ∙ none_below n xs h.1

own_first : (x : Waiter) (xs : List Waiter) → filter (of x.non) (x ∷ xs) ≡ x ∷ filter (of x.non) xs
own_first x xs = ap (λ b. cond b (x ∷ filter (of x.non) xs) (filter (of x.non) xs)) (eq-eqb x.non x.non refl)

-- no list of one nonterminal's entries begins with one of a greater
not_less : (x y : Waiter) (xs ys : List Waiter) → AtLeast y.non ys → filter (of x.non) (x ∷ xs) ≡ filter (of x.non) (y ∷ ys) → x.non < y.non → ⊥
not_less x y xs ys least same lt =
    let none : filter (of x.non) (y ∷ ys) ≡ [] = none_below x.non (y ∷ ys) (omega (arith, lt), less_too (suc x.non) y.non ys (omega (arith, lt)) least) in
    let long = ap length (sym (own_first x xs) ∙ same ∙ none) in
    absurd (omega (arith, long))

-- entries that do not fall, and are the same for each nonterminal, are the same
same_entries : (xs ys : List Waiter) → Rises xs → Rises ys → ((non : ℕ) → filter (of non) xs ≡ filter (of non) ys) → xs ≡ ys
same_entries [] [] rx ry same = refl
same_entries [] (y ∷ ys) rx ry same = let long = ap length (same y.non ∙ own_first y ys) in absurd (omega (arith, long))
same_entries (x ∷ xs) [] rx ry same = let long = ap length (sym (same x.non) ∙ own_first x xs) in absurd (omega (arith, long))
same_entries (x ∷ xs) (y ∷ ys) rx ry same = ap (λ (z : Waiter). z ∷ xs) head ∙ ap (λ (l : List Waiter). y ∷ l) (same_entries xs ys rx.1 ry.1 rest)
  where
    one : x.non ≡ y.non
    one =
        let up : x.non < y.non → ⊥ = not_less x y xs ys ry.0 (same x.non) in
        let down : y.non < x.non → ⊥ = not_less y x ys xs rx.0 (sym (same y.non)) in
        omega arith

    both : x ∷ filter (of x.non) xs ≡ y ∷ filter (of y.non) ys
    both = sym (own_first x xs) ∙ same x.non ∙ ap (λ n. filter (of n) (y ∷ ys)) one ∙ own_first y ys

    head : x ≡ y
    head = ap (λ (l : List Waiter). get_or l 0 x) both

    rest : (non : ℕ) → filter (of non) xs ≡ filter (of non) ys
    rest non = elim (cases_eq non x.non) [
      | inl e ↦ ap (λ n. filter (of n) xs) e ∙ ap (drop 1) both ∙ ap (λ n. filter (of n) ys) (sym (e ∙ one))
      | inr ne ↦
          sym (ap (λ b. cond b (x ∷ filter (of non) xs) (filter (of non) xs)) (ne_eqb non x.non ne)) ∙ same non
          ∙ ap (λ b. cond b (y ∷ filter (of non) ys) (filter (of non) ys)) (ne_eqb non y.non (λ e. ne (e ∙ sym one)))
    ]

-- a sort by the nonterminals groups the entries
pub sorted_grouped : (old new : List Waiter) → IsNonDecreasingBy non_of new → IsStableByKey non_of nat_cmp old new → new ≡ grouped old
sorted_grouped old new up stable = same_entries new (grouped old) (rises_from new up) (rises_grouped old) (λ non. filter_sorted old new stable non ∙ sym (filter_grouped non old))

-- entries that are grouped stay as they are
pub grouped_same : (waits : List Waiter) → IsNonDecreasingBy non_of waits → grouped waits ≡ waits
grouped_same waits up = same_entries (grouped waits) waits (rises_grouped waits) (rises_from waits up) (λ non. filter_grouped non waits)

pub grouped_again : (waits : List Waiter) → grouped (grouped waits) ≡ grouped waits
grouped_again waits = same_entries (grouped (grouped waits)) (grouped waits) (rises_grouped (grouped waits)) (rises_grouped waits) (λ non. filter_grouped non (grouped waits))

-- one entry more
pub waiting_more : (entries : List Waiter) (w : Waiter) (non : ℕ) → waiting_for (entries ++ w ∷ []) non ≡ waiting_for entries non ++ waiting_for (w ∷ []) non
waiting_more entries w non =
    ap (map number_of) (filter-append (λ x. nat_eq non x.non) entries (w ∷ [])) ∙ map-append number_of (filter (λ x. nat_eq non x.non) entries) (filter (λ x. nat_eq non x.non) (w ∷ []))

pub waiting_own : (w : Waiter) → waiting_for (w ∷ []) w.non ≡ w.number ∷ []
waiting_own w = ap (λ b. map number_of (cond b (w ∷ []) [])) (eq-eqb w.non w.non refl)

pub waiting_not : (w : Waiter) (non : ℕ) → (non ≡ w.non → ⊥) → waiting_for (w ∷ []) non ≡ []
waiting_not w non ne = ap (λ b. map number_of (cond b (w ∷ []) [])) (ne_eqb non w.non ne)

-- an entry of the nonterminal stands after those that wait for it before
pub waiting_at : (waits : List Waiter) (non n : ℕ) (d : Waiter) → n < length waits → non ≡ (get_or waits n d).non → slice_get (waiting_for waits non) (length (waiting_for (take n waits) non)) ≡ Some (get_or waits n d).number
waiting_at [] non n d lt e = absurd (omega (arith, lt))
waiting_at (w ∷ waits) non zero d lt e = ap (λ b. slice_get (map number_of (cond b (w ∷ filter (of non) waits) (filter (of non) waits))) 0) (eq-eqb non w.non e)
waiting_at (w ∷ waits) non (suc n) d lt e = by (of non w) (waiting_at waits non n d (omega (arith, lt)) e)
  where
    by : (b : Bool) → slice_get (map number_of (filter (of non) waits)) (length (map number_of (filter (of non) (take n waits)))) ≡ Some (get_or waits n d).number
        → slice_get (map number_of (cond b (w ∷ filter (of non) waits) (filter (of non) waits))) (length (map number_of (cond b (w ∷ filter (of non) (take n waits)) (filter (of non) (take n waits))))) ≡ Some (get_or waits n d).number
    by true h = h
    by false h = h

-- the elements that pass are those of a stretch
pub filter_stretch : {A : Type 0} (p : A → Bool) (xs : List A) (from end : ℕ) → from ≤ end
    → ((k : ℕ) (d : A) → k < from → p (get_or xs k d) ≡ false) → ((k : ℕ) (d : A) → from ≤ k → k < end → p (get_or xs k d) ≡ true)
    → ((k : ℕ) (d : A) → end ≤ k → k < length xs → p (get_or xs k d) ≡ false) → end ≤ length xs → filter p xs ≡ slice_range xs from end
filter_stretch {A} p [] zero end le below inside above within =
    let none : end - zero ≡ zero = omega (arith, within) in
    sym (ap (λ n. take n (drop zero (let l : List A = [] in l))) none)
filter_stretch p [] (suc from) end le below inside above within = absurd (omega (arith, le, within))
filter_stretch p (x ∷ xs) zero zero le below inside above within =
    let out : p x ≡ false = above zero x (omega arith) (omega arith) in
    ap (λ b. cond b (x ∷ filter p xs) (filter p xs)) out
    ∙ filter_stretch p xs zero zero le (λ k d lt. absurd (omega (arith, lt))) (λ k d a lt. absurd (omega (arith, lt))) (λ k d a lt. above (suc k) d (omega arith) (omega (arith, lt))) (omega arith)
filter_stretch p (x ∷ xs) zero (suc end) le below inside above within =
    let pass : p x ≡ true = inside zero x (omega arith) (omega arith) in
    let rest = filter_stretch p xs zero end (omega arith) (λ k d lt. absurd (omega (arith, lt))) (λ k d a lt. inside (suc k) d (omega arith) (omega (arith, lt))) (λ k d a lt. above (suc k) d (omega (arith, a)) (omega (arith, lt))) (omega (arith, within)) in
    let n : end - zero ≡ end = omega arith in
    let m : suc end - zero ≡ suc end = omega arith in
    ap (λ b. cond b (x ∷ filter p xs) (filter p xs)) pass ∙ ap (λ r. x ∷ r) (rest ∙ ap (λ k. take k xs) n) ∙ sym (ap (λ k. take k (x ∷ xs)) m)
filter_stretch p (x ∷ xs) (suc from) zero le below inside above within = absurd (omega (arith, le))
filter_stretch p (x ∷ xs) (suc from) (suc end) le below inside above within =
    let out : p x ≡ false = below zero x (omega arith) in
    let rest = filter_stretch p xs from end (omega (arith, le)) (λ k d lt. below (suc k) d (omega (arith, lt))) (λ k d a lt. inside (suc k) d (omega (arith, a)) (omega (arith, lt))) (λ k d a lt. above (suc k) d (omega (arith, a)) (omega (arith, lt))) (omega (arith, within)) in
    let n : end - from ≡ suc end - suc from = omega arith in
    ap (λ b. cond b (x ∷ filter p xs) (filter p xs)) out ∙ rest ∙ ap (λ k. take k (drop from xs)) n

abbrev Below : List Waiter → ℕ → ℕ → Type 0
Below waits non from = IsPartitionPoint (λ (y : Waiter). nat_lt (non_of y) non ≡ true) (λ (y : Waiter). nat_lt (non_of y) non ≡ false) waits from

-- the entries of the nonterminal are those from the first that is not less up to the next of another one
pub stretch_of : (waits : List Waiter) (non from end : ℕ) → from ≤ end → end ≤ length waits → IsNonDecreasingBy non_of waits → Below waits non from
    → ((k : ℕ) (d : Waiter) → from ≤ k → k < end → non_of (get_or waits k d) ≡ non) → ((d : Waiter) → end < length waits → non_of (get_or waits end d) ≢ non) → filter (λ w. nat_eq non w.non) waits ≡ slice_range waits from end
stretch_of waits non from end le within grouped first same other = filter_stretch (λ w. nat_eq non w.non) waits from end le
    (λ k d lt. let h = ltb-true (non_of (get_or waits k d)) non (first.0 k d (omega arith) lt) in ne_eqb non (non_of (get_or waits k d)) (λ e. omega (arith, h, e)))
    (λ k d low lt. let e = same k d low lt in eq-eqb non (non_of (get_or waits k d)) (omega (arith, e)))
    (λ k d high lt.
    let ne : non_of (get_or waits end d) ≢ non = other d (omega (arith, high, lt)) in
    let least = ltb-false (non_of (get_or waits end d)) non (first.1 end d le (omega (arith, high, lt))) in
    let more = grouped end k d high lt in
    ne_eqb non (non_of (get_or waits k d)) (λ e. ne (omega (arith, least, more, e))))
    within
