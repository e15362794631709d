-- All tasks that a visit leaves can be done.
use Rattle.std.proofs.Common.{◌≡◌, ℕ, zero, ◌-◌, ◌<◌, ◌≤◌, List, [], ◌∷◌, ◌++◌, length, All, Option, Some, None, refl, sym, ap, arith, subst}
use Rattle.std.proofs.lemmas.List.Elements.{All-nil, All-cons, All-push, All-append}
use Rattle.xs_gram.specs.Grammar.{Grammar, items}
use Rattle.xs_forest.specs.Rows.{IsEarlier}
use Rattle.xs_forest_laws.specs.declared.span.What.{What}
use Rattle.xs_forest_laws.specs.declared.span.What.TheVariants.{Whole, Front}
use Rattle.xs_forest_laws.specs.Forest.{Forest, key_at, key_of, IsRight}
use Rattle.xs_forest_laws.specs.Number.{count_of}
use Rattle.xs_forest_laws.proofs.Counts.{left_within}
use Rattle.xs_listing.specs.declared.count.Chosen.{Chosen}
use Rattle.xs_listing.specs.declared.write.Source.{Source}
use Rattle.xs_listing.specs.declared.write.Task.{Task}
use Rattle.xs_listing.specs.declared.write.Task.TheVariants.{Visit}
use Rattle.xs_listing.specs.Writing.{child_task, item_task, last_task, IsVisited, IsSource, CanVisit, CanDo}
use Rattle.xs_listing.proofs.Children.{children_earlier}
use Rattle.xs_listing.proofs.Walking.{item_rule}

-- the places of first items lie within their rule
pub dots_within : (g : Grammar) (w : List ℕ) (f : Forest) → IsRight g w f → (r : ℕ) → r < length f → (p d : ℕ) → (key_of f r).what ≡ Front p d → (zero < d) × (d ≤ length (items g p))
dots_within g w f right r lt p d e =
    let h = right.dotted r p d (key_of f r).start (key_of f r).end (lt, ap (λ x. key_at x (key_of f r).start (key_of f r).end) e) in
    (h.0, h.1)

module _ (s : Source) (is : IsSource s) where
  visit_can : (r c k : ℕ) → r < length s.forest.now → IsEarlier (Some c) r → k < count_of s.counts.now (Some c) → CanVisit s c k
  visit_can r c k there lt less =
      let in' : c < length s.forest.now = omega arith in
      record { there = in'; within = subst (λ n. k < n) (is.counted c in') less }

  child_can : (r : ℕ) (o : Option ℕ) (k : ℕ) → r < length s.forest.now → IsEarlier o r → k < count_of s.counts.now o → All (λ t. CanDo s t 0) (child_task o k)
  child_can r None k there lt less = All-nil (λ t. CanDo s t 0)
  child_can r (Some c) k there lt less = All-cons (λ t. CanDo s t 0) (Visit c k) [] (visit_can r c k there lt less) (All-nil (λ t. CanDo s t 0))

  item_can : (r p d i j : ℕ) (o : Option ℕ) (k : ℕ) → r < length s.forest.now → d < length (items s.g.now p) → IsEarlier o r → k < count_of s.counts.now o → CanDo s (item_task p d i j o k) 0
  item_can r p d i j None k there lt early less = (item_rule s.g.now p d lt, lt)
  item_can r p d i j (Some c) k there lt early less = visit_can r c k there early less

  last_can : (r : ℕ) (what : What) (c : Chosen) → r < length s.forest.now → ((p d : ℕ) → what ≡ Front p d → (zero < d) × (d ≤ length (items s.g.now p))) → IsEarlier c.alt.right r → c.right < count_of s.counts.now c.alt.right → CanDo s (last_task s.forest.now what (key_of s.forest.now r) c 0) 0
  last_can r (Whole n) c there dots early less = omega arith
  last_can r (Front p d) c there dots early less =
      let h = dots p d refl in
      item_can r p (d - 1) _ _ c.alt.right c.right there (before d (length (items s.g.now p)) h.0 h.1) early less
    where
      before : (d n : ℕ) → zero < d → d ≤ n → d - 1 < n
      before d n some le = omega arith

  pub visited_can : (r k : ℕ) (old new : List Task) → r < length s.forest.now → All (λ t. CanDo s t 0) old → IsVisited s.forest.now s.cap s.counts.now r k 0 old new → All (λ t. CanDo s t 0) new
  visited_can r k old new there all v =
      let c = v.found in
      let earlier = children_earlier s.g.now s.doc.now s.forest.now is.right r v.alt_number r c.alt there (omega arith) v.is.alt in
      let lx = left_within s.cap s.counts.now _ k v.alt_number c.left c.right c.alt v.is in
      let last = last_can r (key_of s.forest.now r).what c there (dots_within s.g.now s.doc.now s.forest.now is.right r there) earlier.1 v.is.within in
      subst (λ (l : List Task). All (λ t. CanDo s t 0) l) (sym v.tasks)
      (All-append (λ t. CanDo s t 0) (old ++ last_task s.forest.now (key_of s.forest.now r).what (key_of s.forest.now r) c 0 ∷ []) (child_task c.alt.left c.left) (All-push (λ t. CanDo s t 0) old (last_task s.forest.now (key_of s.forest.now r).what (key_of s.forest.now r) c 0) all last) (child_can r c.alt.left c.left there earlier.0 lx))
