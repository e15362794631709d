-- Laws of visits.
use Rattle.std.proofs.Common.{◌≡◌, ◌≢◌, ◌∙◌, sym, ap, refl, subst, ℕ, zero, suc, ◌+◌, ◌<◌, ◌≤◌, List, [], ◌∷◌, length, get_or, set, arith, ◌⊎◌, inl, inr, get_or-set_same, get_or-set_other}
use Rattle.std.proofs.lemmas.List.{length-set, get_or_past, set_past}
use Rattle.std.proofs.lemmas.List.Sums.{sum_by-set}
use Rattle.std.proofs.lemmas.Bool.{cases_eq, cases_lt}
use Rattle.xs_graph.specs.declared.visit.Visit.{Visit}
use Rattle.xs_graph.specs.declared.visit.Visit.TheVariants.{Unseen, Open, Closed}
use Rattle.xs_graph.specs.States.{visit_of, IsPast, unseen, one_unseen, close_all}

-- a node with a visit is a node
pub visited_within : (visits : List Visit) (a : ℕ) → visit_of visits a ≢ Unseen → a < length visits
visited_within visits a ne = elim (cases_lt a (length visits)) [
  | inl l ↦ l
  | inr l ↦ absurd (ne (get_or_past visits a Unseen l))
]

pub open_seen : (m : Visit) (k : ℕ) → m ≡ Open k → m ≢ Unseen
open_seen m k e u = cc

pub closed_seen : (m : Visit) (k : ℕ) → m ≡ Closed k → m ≢ Unseen
closed_seen m k e u = cc

pub open_closed : (m : Visit) (j k : ℕ) → m ≡ Open j → m ≢ Closed k
open_closed m j k e u = cc

pub open_same : (m : Visit) (j k : ℕ) → m ≡ Open j → m ≡ Open k → j ≡ k
open_same m j k e u = cc

pub closed_same : (m : Visit) (j k : ℕ) → m ≡ Closed j → m ≡ Closed k → j ≡ k
closed_same m j k e u = cc

pub visit_cases : (m : Visit) → (m ≡ Unseen) ⊎ (((k : ℕ) × (m ≡ Open k)) ⊎ ((k : ℕ) × (m ≡ Closed k)))
visit_cases Unseen = inl refl
visit_cases (Open k) = inr (inl (k, refl))
visit_cases (Closed k) = inr (inr (k, refl))

-- what is past a place is past each lower one
pub past_lower : (low high : ℕ) (m : Visit) → low ≤ high → IsPast high m → IsPast low m
past_lower low high Unseen l h = h
past_lower low high (Open k) l h = omega arith
past_lower low high (Closed k) l h = tt

pub past_open : (least k : ℕ) (m : Visit) → m ≡ Open k → least ≤ k → IsPast least m
past_open least k m e l = subst (λ (n : Visit). IsPast least n) (sym e) l

pub past_closed : (least k : ℕ) (m : Visit) → m ≡ Closed k → IsPast least m
past_closed least k m e = subst (λ (n : Visit). IsPast least n) (sym e) tt

pub past_same : (least : ℕ) (m n : Visit) → m ≡ n → IsPast least m → IsPast least n
past_same least m n e h = subst (λ (x : Visit). IsPast least x) e h

pub past_seen : (least : ℕ) (m : Visit) → IsPast least m → m ≢ Unseen
past_seen least m h e = subst (λ (x : Visit). IsPast least x) e h

pub past_at : (least k : ℕ) (m : Visit) → m ≡ Open k → IsPast least m → least ≤ k
past_at least k m e h = subst (λ (x : Visit). IsPast least x) e h

-- a node that was not reached is reached: one fewer
pub unseen_set : (visits : List Visit) (a : ℕ) (m : Visit) → a < length visits → visit_of visits a ≡ Unseen → one_unseen m ≡ 0 → unseen (set visits a m) + 1 ≡ unseen visits
unseen_set visits a m l e z =
    let h : one_unseen (visit_of visits a) ≡ 1 = ap one_unseen e in
    omega (arith, sum_by-set one_unseen visits a m Unseen l, h, z)

-- a component makes no node unseen
unseen_closed : (visits : List Visit) (a number : ℕ) → unseen (set visits a (Closed number)) ≤ unseen visits
unseen_closed visits a number = elim (cases_lt a (length visits)) [
  | inl l ↦ omega (arith, sum_by-set one_unseen visits a (Closed number) Unseen l)
  | inr l ↦ omega (arith, ap unseen (set_past visits a (Closed number) l))
]

pub unseen_close : (number : ℕ) (visits : List Visit) (nodes : List ℕ) → unseen (close_all number visits nodes) ≤ unseen visits
unseen_close number visits [] = omega arith
unseen_close number visits (a ∷ nodes) = omega (arith, unseen_close number (set visits a (Closed number)) nodes, unseen_closed visits a number)

pub length_close : (number : ℕ) (visits : List Visit) (nodes : List ℕ) → length (close_all number visits nodes) ≡ length visits
length_close number visits [] = refl
length_close number visits (a ∷ nodes) = length_close number (set visits a (Closed number)) nodes ∙ length-set visits a (Closed number)

-- a node that is not among those that are closed has the visit that it had
pub close_out : (number : ℕ) (visits : List Visit) (nodes : List ℕ) (a : ℕ) → ((k : ℕ) → k < length nodes → get_or nodes k 0 ≢ a) → visit_of (close_all number visits nodes) a ≡ visit_of visits a
close_out number visits [] a out = refl
close_out number visits (b ∷ nodes) a out =
    let ne : a ≢ b = λ e. out 0 (omega arith) (sym e) in
    close_out number (set visits b (Closed number)) nodes a (λ k l. out (suc k) (omega arith)) ∙ get_or-set_other visits b a (Closed number) Unseen ne

close_stays : (number : ℕ) (visits : List Visit) (nodes : List ℕ) (a : ℕ) → visit_of visits a ≡ Closed number → visit_of (close_all number visits nodes) a ≡ Closed number
close_stays number visits [] a e = e
close_stays number visits (b ∷ nodes) a e = close_stays number (set visits b (Closed number)) nodes a (elim (cases_eq a b) [
  | inl same ↦ subst (λ (x : ℕ). visit_of (set visits x (Closed number)) a ≡ Closed number) same (get_or-set_same visits a (Closed number) Unseen (visited_within visits a (closed_seen (visit_of visits a) number e)))
  | inr ne ↦ get_or-set_other visits b a (Closed number) Unseen ne ∙ e
])

-- a node that is among them is closed
pub close_in : (number : ℕ) (visits : List Visit) (nodes : List ℕ) (a k : ℕ) → a < length visits → k < length nodes → get_or nodes k 0 ≡ a → visit_of (close_all number visits nodes) a ≡ Closed number
close_in number visits [] a k l h e = absurd (omega arith)
close_in number visits (b ∷ nodes) a zero l h e = close_stays number (set visits b (Closed number)) nodes a (subst (λ (x : ℕ). visit_of (set visits x (Closed number)) a ≡ Closed number) (sym e) (get_or-set_same visits a (Closed number) Unseen l))
close_in number visits (b ∷ nodes) a (suc k) l h e = close_in number (set visits b (Closed number)) nodes a k (omega (arith, length-set visits b (Closed number))) (omega arith) e
