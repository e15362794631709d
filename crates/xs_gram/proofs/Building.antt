-- What is appended while a grammar is built, and that what is built is in range, small and sound.
use Rattle.std.proofs.Common.{◌≡◌, ◌⊎◌, inl, inr, ℕ, suc, zero, ◌+◌, ◌-◌, ◌<◌, ◌≤◌, add-one, List, [], ◌∷◌, ◌++◌, length, drop, get_or, refl, sym, ◌∙◌, ap, subst, arith, Some, slice_get, slice_index_or, append_assoc, length-append, drop-cons}
use Rattle.std.proofs.lemmas.List.{get_or_append_left, get_or_default}
use Rattle.xs_class.proofs.Lists.{get_left}
use Rattle.xs_gram.specs.declared.parts.GItem.{GItem}
use Rattle.xs_gram.specs.declared.parts.RulePart.{RulePart}
use Rattle.xs_gram.specs.declared.places.Place.{Place}
use Rattle.xs_gram.specs.Grammar.{Grammar, no_rule, items}
use Rattle.xs_gram.specs.Places.{at_dot, at_inside, positions_of, insides, rule_places, places_from}
use Rattle.xs_gram.specs.Building.{EachOf, AreRowStarts, AreStarts}
use Rattle.xs_gram.proofs.Numbers.{length-insides}

-- the rest of a list, by its first element
pub drop_next : {A : Type 0} (xs : List A) (d : ℕ) (x : A) → d < length xs → x ≡ get_or xs d x → drop d xs ≡ x ∷ drop (d + 1) xs
drop_next xs d x lt is = rw add-one (drop-cons xs d x lt ∙ ap (λ y. y ∷ drop (suc d) xs) (sym is))

pub rest_here : {A : Type 0} (P : A → Type 0) (xs : List A) (d : ℕ) (x : A) → d < length xs → x ≡ get_or xs d x → EachOf P (drop d xs) → P x × EachOf P (drop (d + 1) xs)
rest_here P xs d x lt is each = subst (λ l. EachOf P l) (drop_next xs d x lt is) each

pub insides_step : (xs ys all : List Place) (p n k count : ℕ) → k < count → ys ≡ xs ++ at_inside p n k ∷ [] → xs ++ insides p n k (count - k) ≡ all → ys ++ insides p n (k + 1) (count - (k + 1)) ≡ all
insides_step xs ys all p n k count lt e is =
    let one : count - k ≡ suc (count - (k + 1)) = omega arith in
    let opened : insides p n k (count - k) ≡ at_inside p n k ∷ insides p n (k + 1) (count - (k + 1)) = ap (λ m. insides p n k m) one in
    ap (λ l. l ++ insides p n (k + 1) (count - (k + 1))) e ∙ append_assoc xs (at_inside p n k ∷ []) (insides p n (k + 1) (count - (k + 1))) ∙ ap (λ l. xs ++ l) (sym opened) ∙ is

-- the places of one more item are appended
pub items_step : (g : Grammar) (p d : ℕ) (is : List GItem) (item : GItem) (xs ys all : List Place) → d < length is → item ≡ get_or is d item → ys ≡ xs ++ at_dot p d ∷ insides p d 0 (positions_of g item) → xs ++ rule_places g p d (drop d is) ≡ all → ys ++ rule_places g p (d + 1) (drop (d + 1) is) ≡ all
items_step g p d is item xs ys all lt at e whole =
    let opened : rule_places g p d (drop d is) ≡ (at_dot p d ∷ insides p d 0 (positions_of g item)) ++ rule_places g p (d + 1) (drop (d + 1) is) = ap (λ l. rule_places g p d l) (drop_next is d item lt at) in
    ap (λ l. l ++ rule_places g p (d + 1) (drop (d + 1) is)) e ∙ append_assoc xs (at_dot p d ∷ insides p d 0 (positions_of g item)) (rule_places g p (d + 1) (drop (d + 1) is)) ∙ ap (λ l. xs ++ l) (sym opened) ∙ whole

-- a rule has more places than items, and an item fewer positions than its rule places
pub items_few : (g : Grammar) (p n : ℕ) (is : List GItem) → length is < length (rule_places g p n is)
items_few g p n [] = omega arith
items_few g p n (i ∷ is) =
    let rest = items_few g p (n + 1) is in
    omega (arith, length-append (insides p n 0 (positions_of g i)) (rule_places g p (n + 1) is))

pub positions_few : (g : Grammar) (p d : ℕ) (is : List GItem) (item : GItem) (xs all : List Place) → d < length is → item ≡ get_or is d item → xs ++ rule_places g p d (drop d is) ≡ all → positions_of g item < length all
positions_few g p d is item xs all lt at whole =
    let opened : rule_places g p d (drop d is) ≡ at_dot p d ∷ (insides p d 0 (positions_of g item) ++ rule_places g p (d + 1) (drop (d + 1) is)) = ap (λ l. rule_places g p d l) (drop_next is d item lt at) in
    omega (arith, ap length opened, ap length whole, length-append xs (rule_places g p d (drop d is)), length-append (insides p d 0 (positions_of g item)) (rule_places g p (d + 1) (drop (d + 1) is)), length-insides p d 0 (positions_of g item))

get_seam : {A : Type 0} (xs ys : List A) (c : A) → slice_get (xs ++ c ∷ ys) (length xs) ≡ Some c
get_seam [] ys c = refl
get_seam (x ∷ xs) ys c = get_seam xs ys c

or_left : {A : Type 0} (xs ys : List A) (k : ℕ) (d : A) → k < length xs → slice_index_or (xs ++ ys) k d ≡ slice_index_or xs k d
or_left xs ys k d lt = get_or_append_left xs ys d k lt

or_seam : {A : Type 0} (xs : List A) (k : ℕ) (c d : A) → k ≡ length xs → slice_index_or (xs ++ c ∷ []) k d ≡ c
or_seam [] zero c d e = refl
or_seam [] (suc k) c d e = absurd (omega (arith, e))
or_seam (x ∷ xs) zero c d e = absurd (omega (arith, e))
or_seam (x ∷ xs) (suc k) c d e = or_seam xs k c d (omega (arith, e))

below_or_last : (n d : ℕ) → n < d + 1 → (n < d) ⊎ (n ≡ d)
below_or_last zero zero lt = inr refl
below_or_last zero (suc d) lt = inl (omega arith)
below_or_last (suc n) zero lt = absurd (omega arith)
below_or_last (suc n) (suc d) lt = up (below_or_last n d (omega arith))
  where
    up : (n < d) ⊎ (n ≡ d) → (suc n < suc d) ⊎ (suc n ≡ suc d)
    up (inl l) = inl (omega (arith, l))
    up (inr e) = inr (ap suc e)

-- one more place before an item is noted, and appended
pub row_step : (xs more ys : List Place) (p d at : ℕ) (row new : List ℕ) → ys ≡ xs ++ at_dot p d ∷ more → at ≡ length xs → new ≡ row ++ at ∷ [] → AreRowStarts xs p d row → AreRowStarts ys p (d + 1) new
row_step xs more ys p d at row new e here e' so_far = record {
  long = omega (arith, ap length e', length-append row (at ∷ []), so_far.long);
  found = λ n lt. each n (below_or_last n d lt);
}
  where
    each : (n : ℕ) → (n < d) ⊎ (n ≡ d) → slice_get ys (slice_index_or new n 0) ≡ Some (at_dot p n)
    each n (inl lt) =
        let place : slice_index_or new n 0 ≡ slice_index_or row n 0 = ap (λ l. slice_index_or l n 0) e' ∙ or_left row (at ∷ []) n 0 (omega (arith, lt, so_far.long)) in
        ap (λ m. slice_get ys m) place ∙ ap (λ l. slice_get l (slice_index_or row n 0)) e ∙ get_left xs (at_dot p d ∷ more) (slice_index_or row n 0) (at_dot p n) (so_far.found n lt)
    each n (inr eq) =
        let place : slice_index_or new n 0 ≡ length xs = ap (λ l. slice_index_or l n 0) e' ∙ or_seam row n at 0 (omega (arith, eq, so_far.long)) ∙ here in
        ap (λ m. slice_get ys m) place ∙ ap (λ l. slice_get l (length xs)) e ∙ get_seam xs more (at_dot p d) ∙ ap (λ m. Some (at_dot p m)) (sym eq)

-- what was noted stays so
pub row_kept : (xs more : List Place) (p count : ℕ) (row : List ℕ) → AreRowStarts xs p count row → AreRowStarts (xs ++ more) p count row
row_kept xs more p count row so_far = record {
  long = so_far.long;
  found = λ n lt. get_left xs more (slice_index_or row n 0) (at_dot p n) (so_far.found n lt);
}

-- the places of one more rule are appended
pub rules_step : (g : Grammar) (p : ℕ) (rs : List RulePart) (r : RulePart) (xs ys all : List Place) → p < length rs → r ≡ get_or rs p r → ys ≡ xs ++ rule_places g p 0 r.items → xs ++ places_from g p (drop p rs) ≡ all → ys ++ places_from g (p + 1) (drop (p + 1) rs) ≡ all
rules_step g p rs r xs ys all lt at e whole =
    let opened : places_from g p (drop p rs) ≡ rule_places g p 0 r.items ++ places_from g (p + 1) (drop (p + 1) rs) = ap (λ l. places_from g p l) (drop_next rs p r lt at) in
    ap (λ l. l ++ places_from g (p + 1) (drop (p + 1) rs)) e ∙ append_assoc xs (rule_places g p 0 r.items) (places_from g (p + 1) (drop (p + 1) rs)) ∙ ap (λ l. xs ++ l) (sym opened) ∙ whole

pub rule_few : (g : Grammar) (p : ℕ) (rs : List RulePart) (r : RulePart) (xs all : List Place) → p < length rs → r ≡ get_or rs p r → xs ++ places_from g p (drop p rs) ≡ all → length (xs ++ rule_places g p 0 r.items) ≤ length all
rule_few g p rs r xs all lt at whole =
    let opened : places_from g p (drop p rs) ≡ rule_places g p 0 r.items ++ places_from g (p + 1) (drop (p + 1) rs) = ap (λ l. places_from g p l) (drop_next rs p r lt at) in
    omega (arith, ap length opened, ap length whole, length-append xs (places_from g p (drop p rs)), length-append xs (rule_places g p 0 r.items), length-append (rule_places g p 0 r.items) (places_from g (p + 1) (drop (p + 1) rs)))

-- the row of one more rule is noted
pub starts_step : (g : Grammar) (xs more ys : List Place) (p : ℕ) (r : RulePart) (row : List ℕ) (starts new : List (List ℕ)) → p < length g.rules → r ≡ get_or g.rules p r → ys ≡ xs ++ more → new ≡ starts ++ row ∷ [] → AreStarts g xs p starts → AreRowStarts ys p (suc (length r.items)) row → AreStarts g ys (p + 1) new
starts_step g xs more ys p r row starts new lt at e e' so_far last = record {
  rows = omega (arith, ap length e', length-append starts (row ∷ []), so_far.rows);
  found = λ q below. each q (below_or_last q p below);
}
  where
    same : items g p ≡ r.items
    same = ap (λ (r : RulePart). r.items) (get_or_default g.rules p no_rule r lt ∙ sym at)

    each : (q : ℕ) → (q < p) ⊎ (q ≡ p) → AreRowStarts ys q (suc (length (items g q))) (slice_index_or new q [])
    each q (inl below) =
        let place : slice_index_or starts q [] ≡ slice_index_or new q [] = sym (ap (λ l. slice_index_or l q []) e' ∙ or_left starts (row ∷ []) q [] (omega (arith, below, so_far.rows))) in
        subst (λ l. AreRowStarts ys q (suc (length (items g q))) l) place (subst (λ l. AreRowStarts l q (suc (length (items g q))) (slice_index_or starts q [])) (sym e) (row_kept xs more q (suc (length (items g q))) (slice_index_or starts q []) (so_far.found q below)))
    each q (inr eq) =
        let place : row ≡ slice_index_or new q [] = sym (ap (λ l. slice_index_or l q []) e' ∙ or_seam starts q row [] (omega (arith, eq, so_far.rows))) in
        let at_p : AreRowStarts ys p (suc (length (items g p))) row = subst (λ (l : List GItem). AreRowStarts ys p (suc (length l)) row) (sym same) last in
        subst (λ l. AreRowStarts ys q (suc (length (items g q))) l) place (subst (λ m. AreRowStarts ys m (suc (length (items g m))) row) (sym eq) at_p)
