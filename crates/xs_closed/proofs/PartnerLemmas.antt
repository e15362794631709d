-- What the pairs of a row need, one partner after another.
use Rattle.std.proofs.Common.{◌≡◌, ℕ, ◌+◌, ◌<◌, ◌≤◌, ◌⊎◌, true, false, max, List, Option, Some, None, refl, sym, ◌∙◌, inl, inr, arith}
use Rattle.std.proofs.lemmas.Bool.{cases_eq, cases_lt, true≢false}
use Rattle.xs_auto.specs.declared.call.Call.{Call}
use Rattle.xs_auto.specs.Edges.{Edge}
use Rattle.xs_auto.specs.Nets.{Graph, edges_of, moves_of, calls_of}
use Rattle.xs_meet.specs.Closed.{Drifts, Strides}
use Rattle.xs_closed.specs.Rows.{Grid, marked, IsNext}
use Rattle.xs_closed.specs.Search.{OneOf, IsPair}
use Rattle.xs_closed.specs.Testing.{StridesBy, InRow, InRowBelow, Raises, Lacks, IsNeed}
use Rattle.xs_closed.proofs.NeedLemmas.{raises_none, raises_then, raises_as, lacks_as}

pub partners_more : (y z : Grid) (a : ℕ) (F : ℕ → ℕ → ℕ → Type 0) (from b old mid new : ℕ) → IsNext y a from b → Raises z (InRowBelow y a from F) old mid → Raises z (F b) mid new → Raises z (InRowBelow y a (b + 1) F) old new
partners_more y z a F from b old mid new next h g = raises_then z old mid new split left right h g
  where
    split : (c d : ℕ) → InRowBelow y a (b + 1) F c d → InRowBelow y a from F c d ⊎ F b c d
    split c d t = elim (cases_lt t.partner from) [
      | inl k ↦ inl (record { partner = t.partner; before = k; there = t.there; leads = t.leads })
      | inr k ↦ elim (cases_eq t.partner b) [
        | inl q ↦ inr (rw q at t.leads)
        | inr q ↦ absurd (true≢false (sym t.there ∙ next.least t.partner k (omega (arith, t.before))))
      ]
    ]

    left : (c d : ℕ) → InRowBelow y a from F c d → InRowBelow y a (b + 1) F c d
    left c d t = record { partner = t.partner; before = omega (arith, t.before, next.order); there = t.there; leads = t.leads }

    right : (c d : ℕ) → F b c d → InRowBelow y a (b + 1) F c d
    right c d t = record { partner = b; before = omega arith; there = next.there; leads = t }

pub partners_lack : (y z : Grid) (a : ℕ) (F : ℕ → ℕ → ℕ → Type 0) (from b : ℕ) → IsNext y a from b → Lacks z (F b) → Lacks z (InRow y a F)
partners_lack y z a F from b next = lacks_as z (λ c d t. record { partner = b; there = next.there; leads = t })

pub partners_done : (y z : Grid) (a : ℕ) (F : ℕ → ℕ → ℕ → Type 0) (from old new : ℕ) → ((b : ℕ) → from ≤ b → marked y a b ≡ false) → Raises z (InRowBelow y a from F) old new → Raises z (InRow y a F) old new
partners_done y z a F from old new past = raises_as z old new (λ c d t. record { partner = t.partner; there = t.there; leads = t.leads }) (λ c d t. record { partner = t.partner; before = before t.partner t.there; there = t.there; leads = t.leads })
  where
    before : (b : ℕ) → marked y a b ≡ true → b < from
    before b e = elim (cases_lt b from) [ inl l ↦ l | inr l ↦ absurd (true≢false (sym e ∙ past b l)) ]

pub no_partners : (y z : Grid) (a : ℕ) (F : ℕ → ℕ → ℕ → Type 0) (old : ℕ) → ((b : ℕ) → marked y a b ≡ false) → Raises z (InRow y a F) old old
no_partners y z a F old none = raises_none z old (λ c d t. true≢false (sym t.there ∙ none t.partner))

-- all partners beside one first state
pub first_has : (y z : Grid) (a c p old : ℕ) → marked y a p ≡ true → ((b : ℕ) → marked y a b ≡ true → marked z c b ≡ true) → Raises z (InRow y a (IsPair c)) old (max old (c + 1))
first_has y z a c p old e h = record {
  there = λ x d t. rw (t.leads.first, t.leads.second) (h t.partner t.there);
  order = omega arith;
  within = λ x d t. omega (arith, t.leads.first);
  least = λ x o k. let l : c < x = k c p (record { partner = p; there = e; leads = record { first = refl; second = refl } }) in omega arith;
}

pub first_lacks : (y z : Grid) (a c : ℕ) → (((b : ℕ) → marked y a b ≡ true → marked z c b ≡ true) → ⊥) → Lacks z (InRow y a (IsPair c))
first_lacks y z a c h k = h (λ b e. k c b (record { partner = b; there = e; leads = record { first = refl; second = refl } }))

-- the moves of the first net, and then those of the second
drifts_of : (z : Grid) (m n : Graph) (a b : ℕ) (xs : List ℕ) → xs ≡ moves_of m a → marked z a b ≡ true → (c d : ℕ) → Drifts m n a b c d → OneOf xs (λ x. InRow z a (IsPair x)) c d ⊎ InRow z a (λ y. OneOf (moves_of n y) (IsPair a)) c d
drifts_of z m n a b xs e there c d (inl x) = inl (record { item = c; has = rw e x.move; leads = record { partner = b; there = there; leads = record { first = refl; second = x.still } } })
drifts_of z m n a b xs e there c d (inr y) = inr (record { partner = b; there = there; leads = record { item = d; has = y.move; leads = record { first = y.still; second = refl } } })

drifts_split : (z : Grid) (m n : Graph) (a : ℕ) (xs : List ℕ) → xs ≡ moves_of m a → (c d : ℕ) → InRow z a (Drifts m n a) c d → OneOf xs (λ x. InRow z a (IsPair x)) c d ⊎ InRow z a (λ b. OneOf (moves_of n b) (IsPair a)) c d
drifts_split z m n a xs e c d t = drifts_of z m n a t.partner xs e t.there c d t.leads

drifts_left : (z : Grid) (m n : Graph) (a : ℕ) (xs : List ℕ) → xs ≡ moves_of m a → (c d : ℕ) → OneOf xs (λ x. InRow z a (IsPair x)) c d → InRow z a (Drifts m n a) c d
drifts_left z m n a xs e c d t = let u = t.leads in record { partner = u.partner; there = u.there; leads = inl (record { move = rw (u.leads.first, ← e) t.has; still = u.leads.second }) }

drifts_right : (z : Grid) (m n : Graph) (a c d : ℕ) → InRow z a (λ b. OneOf (moves_of n b) (IsPair a)) c d → InRow z a (Drifts m n a) c d
drifts_right z m n a c d t = let u = t.leads in record { partner = t.partner; there = t.there; leads = inr (record { move = rw u.leads.second u.has; still = u.leads.first }) }

pub drifts_first : (z : Grid) (m n : Graph) (a : ℕ) (xs : List ℕ) → xs ≡ moves_of m a → Lacks z (OneOf xs (λ x. InRow z a (IsPair x))) → Lacks z (InRow z a (Drifts m n a))
drifts_first z m n a xs e = lacks_as z (drifts_left z m n a xs e)

pub drifts_then : (z : Grid) (m n : Graph) (a : ℕ) (xs : List ℕ) (old mid : ℕ) (result : Option ℕ) → xs ≡ moves_of m a → Raises z (OneOf xs (λ x. InRow z a (IsPair x))) old mid → IsNeed z (InRow z a (λ b. OneOf (moves_of n b) (IsPair a))) mid result → IsNeed z (InRow z a (Drifts m n a)) old result
drifts_then z m n a xs old mid None e h g = lacks_as z (drifts_right z m n a) g
drifts_then z m n a xs old mid (Some new) e h g = raises_then z old mid new (drifts_split z m n a xs e) (drifts_left z m n a xs e) (drifts_right z m n a) h g

-- the edges and the calls of both nets
by_edges : (R : ℕ → ℕ → Type 0) (m n : Graph) (a b : ℕ) (es : List Edge) (hs : List Call) → es ≡ edges_of m a → hs ≡ calls_of m a → (c d : ℕ) → Strides R m n a b c d → StridesBy R es hs n b c d
by_edges R m n a b es hs q q' c d (inl x) =
    let y = x.1 in
    inl (record { item = y.first; has = rw q y.of_first; leads = record { item = y.second; has = y.of_second; leads = record { symbol = x.0; takes_first = y.takes_first; takes_second = y.takes_second; to_first = y.to_first; to_second = y.to_second } } })
by_edges R m n a b es hs q q' c d (inr x) =
    let y = x.2 in
    inr (record { item = y.first; has = rw q' y.of_first; leads = record { item = y.second; has = y.of_second; leads = record { related = rw (y.over_first, y.over_second) y.related; to_first = y.to_first; to_second = y.to_second } } })

of_edges : (R : ℕ → ℕ → Type 0) (m n : Graph) (a b : ℕ) (es : List Edge) (hs : List Call) → es ≡ edges_of m a → hs ≡ calls_of m a → (c d : ℕ) → StridesBy R es hs n b c d → Strides R m n a b c d
of_edges R m n a b es hs q q' c d (inl t) =
    let u = t.leads in
    let w = u.leads in
    inl (w.symbol, record { first = t.item; second = u.item; of_first = rw (← q) t.has; of_second = u.has; takes_first = w.takes_first; takes_second = w.takes_second; to_first = w.to_first; to_second = w.to_second })
of_edges R m n a b es hs q q' c d (inr t) =
    let u = t.leads in
    let w = u.leads in
    inr (t.item.group, u.item.group, record { first = t.item; second = u.item; of_first = rw (← q') t.has; of_second = u.has; over_first = refl; over_second = refl; related = w.related; to_first = w.to_first; to_second = w.to_second })

pub strides_lack : (y z : Grid) (R : ℕ → ℕ → Type 0) (m n : Graph) (a : ℕ) (es : List Edge) (hs : List Call) → es ≡ edges_of m a → hs ≡ calls_of m a → Lacks z (InRow y a (StridesBy R es hs n)) → Lacks z (InRow y a (Strides R m n a))
strides_lack y z R m n a es hs q q' = lacks_as z (λ c d t. record { partner = t.partner; there = t.there; leads = of_edges R m n a t.partner es hs q q' c d t.leads })

pub strides_done : (y z : Grid) (R : ℕ → ℕ → Type 0) (m n : Graph) (a : ℕ) (es : List Edge) (hs : List Call) (old new : ℕ) → es ≡ edges_of m a → hs ≡ calls_of m a → Raises z (InRow y a (StridesBy R es hs n)) old new → Raises z (InRow y a (Strides R m n a)) old new
strides_done y z R m n a es hs old new q q' = raises_as z old new (λ c d t. record { partner = t.partner; there = t.there; leads = of_edges R m n a t.partner es hs q q' c d t.leads }) (λ c d t. record { partner = t.partner; there = t.there; leads = by_edges R m n a t.partner es hs q q' c d t.leads })
