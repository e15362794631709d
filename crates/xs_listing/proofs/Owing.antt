-- What tasks owe, the last of them first.
use Rattle.std.proofs.Common.{◌≡◌, ℕ, zero, suc, ◌+◌, ◌-◌, ◌<◌, ◌≤◌, List, [], ◌∷◌, ◌++◌, length, All, Option, Some, None, refl, sym, ◌∙◌, ap, arith, subst, append-nil}
use Rattle.std.specs.Prelude.{slice_index_or, slice_range}
use Rattle.std.proofs.lemmas.List.Elements.{All-nil, All-cons, All-head, All-tail}
use Rattle.xs_gram.specs.Derivations.{Parts}
use Rattle.xs_forest.specs.declared.row.Alt.{Alt}
use Rattle.xs_tree.specs.Counts.{capped}
use Rattle.xs_forest_laws.specs.declared.span.SpanKey.{SpanKey}
use Rattle.xs_forest_laws.specs.declared.span.What.{What}
use Rattle.xs_forest_laws.specs.declared.span.What.TheVariants.{Whole, Front}
use Rattle.xs_forest_laws.specs.Forest.{key_of, alts_of, Unfolding, item_of, end_of, last_part, read_alt, read}
use Rattle.xs_forest_laws.specs.Number.{count_of, alts_count, At}
use Rattle.xs_forest_laws.proofs.Counts.{chosen_at}
use Rattle.xs_listing.specs.declared.count.Chosen.{Chosen}
use Rattle.xs_listing.specs.declared.write.Source.{Source}
use Rattle.xs_listing.specs.declared.write.Task.{Task}
use Rattle.xs_listing.specs.declared.write.Task.TheVariants.{Visit}
use Rattle.xs_listing.specs.Writing.{child_task, item_task, last_task, IsVisited, IsSource, HasChild, CanVisit, CanDo}
use Rattle.xs_listing.specs.Sizes.{spelt_count, word_count, AreSizes}
use Rattle.xs_listing.specs.Owed.{Owes, AllOwe, IsCountedOff}
use Rattle.xs_listing.proofs.Sizing.{dots_within}
use Rattle.xs_listing.proofs.Sized.{count_then, count_word, first_at}

pub all_last : (P : Task → Type 0) (ts : List Task) (t : Task) → All P (ts ++ t ∷ []) → P t
all_last P [] t h = All-head P t [] h
all_last P (x ∷ ts) t h = all_last P ts t (All-tail P x (ts ++ t ∷ []) h)

-- a count is above 0 only where the cap is
some_cap : (cap : ℕ) (cs : List ℕ) (alts : List Alt) (k : ℕ) → k < alts_count cap cs alts → 1 ≤ cap
some_cap cap cs [] k lt = absurd (omega arith)
some_cap cap cs (a ∷ alts) k lt = omega arith

module _ (s : Source) where
  pub owe_push : (ts : List Task) (t : Task) (n a : ℕ) → AllOwe s ts n → Owes s t a → AllOwe s (ts ++ t ∷ []) (n + a)
  owe_push [] t n a all one = (a, 0, one, refl, omega arith)
  owe_push (x ∷ ts) t n a (b, c, first, rest, e) one = (b, c + a, first, owe_push ts t c a rest one, omega arith)

  pub owe_pop : (ts : List Task) (t : Task) (n : ℕ) → AllOwe s (ts ++ t ∷ []) n → (a : ℕ) × (b : ℕ) × Owes s t a × AllOwe s ts b × (n ≡ a + b)
  owe_pop [] t n (a, b, one, none, e) = (a, 0, one, refl, omega arith)
  owe_pop (x ∷ ts) t n (b, c, first, rest, e) =
      let r = owe_pop ts t c rest in
      (r.0, b + r.1, r.2, (b, r.1, first, r.3, refl), omega (arith, r.4))

  -- a child's task owes what its unfolding reads as
  pub owe_child : (ts : List Task) (o : Option ℕ) (k n : ℕ) (u : Unfolding) → AllOwe s ts n → At s.forest.now s.cap s.counts.now o k u → AllOwe s (ts ++ child_task o k) (n + spelt_count (read s.g.now s.doc.now s.forest.now o u))
  owe_child ts None k n u all at = subst (λ (l : List Task). AllOwe s l (n + 0)) (sym (append-nil ts)) (subst (λ m. AllOwe s ts m) (same n) all)
    where
      same : (n : ℕ) → n ≡ n + 0
      same n = omega arith
  owe_child ts (Some r) k n u all at = owe_push ts (Visit r k) n (spelt_count (read s.g.now s.doc.now s.forest.now (Some r) u)) all (u, at, refl)

  pub owe_first : (o : Option ℕ) (k : ℕ) (u : Unfolding) → At s.forest.now s.cap s.counts.now o k u → AllOwe s (child_task o k) (spelt_count (read s.g.now s.doc.now s.forest.now o u))
  owe_first None k u at = refl
  owe_first (Some r) k u at = (spelt_count (read s.g.now s.doc.now s.forest.now (Some r) u), 0, (u, at, refl), refl, omega arith)

  last_owes : (what : What) (k : SpanKey) (c : Chosen) (ls : Parts) (t : Unfolding) → ((p d : ℕ) → what ≡ Front p d → zero < d) → At s.forest.now s.cap s.counts.now c.alt.right c.right t → (n : ℕ) × Owes s (last_task s.forest.now what k c 0) n × (spelt_count (read_alt s.g.now s.doc.now s.forest.now what k c.alt ls (read s.g.now s.doc.now s.forest.now c.alt.right t)) ≡ spelt_count ls + n)
  last_owes (Whole m) k c ls t dots at = (1, refl, omega arith)
  last_owes (Front p zero) k c ls t dots at = absurd (omega (arith, dots p zero refl))
  last_owes (Front p (suc d)) k c ls t dots at =
      let before : suc d - 1 ≡ d = omega arith in
      let r = item_owes c.alt.right at in
      (r.0, subst (λ n. Owes s (item_task p n (end_of s.forest.now k.start c.alt.left) k.end c.alt.right c.right) r.0) (sym before) r.1, count_then ls (last_part (item_of s.g.now p d) (slice_range s.doc.now (end_of s.forest.now k.start c.alt.left) k.end) c.alt.right (read s.g.now s.doc.now s.forest.now c.alt.right t)) ∙ ap (λ n. spelt_count ls + n) r.2)
    where
      item_owes : (o : Option ℕ) → At s.forest.now s.cap s.counts.now o c.right t → (n : ℕ) × Owes s (item_task p d (end_of s.forest.now k.start c.alt.left) k.end o c.right) n × (spelt_count (last_part (item_of s.g.now p d) (slice_range s.doc.now (end_of s.forest.now k.start c.alt.left) k.end) o (read s.g.now s.doc.now s.forest.now o t)) ≡ n)
      item_owes None at = (word_count (item_of s.g.now p d), refl, count_word (item_of s.g.now p d) (slice_range s.doc.now (end_of s.forest.now k.start c.alt.left) k.end))
      item_owes (Some r) at = (spelt_count (read s.g.now s.doc.now s.forest.now (Some r) t), (t, at, refl), refl)

  module _ (is : IsSource s) where
    pub first_can : (o : Option ℕ) (k : ℕ) → HasChild s o → k < count_of s.counts.now o → All (λ t. CanDo s t 0) (child_task o k)
    first_can None k h lt = All-nil (λ t. CanDo s t 0)
    first_can (Some r) k h lt = All-cons (λ t. CanDo s t 0) (Visit r k) [] (record { there = h.0; within = subst (λ n. k < n) (is.counted r h.0) lt }) (All-nil (λ t. CanDo s t 0))

    -- a row's first unfolding is counted by the row's size
    pub first_off : (sizes : List ℕ) (r : ℕ) (old : List Task) → length sizes ≡ length s.forest.now → AreSizes s.g.now s.doc.now s.forest.now sizes → CanVisit s r 0 → IsCountedOff s (Visit r 0) old old (slice_index_or sizes r 0)
    first_off sizes r old sized sizes_are can owed rest (u, at, e) all =
        let there = can.there in
        let some = some_cap s.cap s.counts.now (alts_of s.forest.now r) 0 can.within in
        let first = first_at s.g.now s.doc.now s.forest.now is.right s.cap s.counts.now is.counted some (Some r) 0 u refl at in
        let size = sizes_are r (omega arith) u first in
        (rest, all, omega arith)

    -- a visit counts none
    pub visit_off : (r k : ℕ) (old new : List Task) → r < length s.forest.now → IsVisited s.forest.now s.cap s.counts.now r k 0 old new → IsCountedOff s (Visit r k) old new 0
    visit_off r k old new there v owed rest (u, at, e) all =
        let c = v.found in
        let f = s.forest.now in
        let ch = chosen_at f s.cap s.counts.now r k v.alt_number c.left c.right c.alt v.is u at in
        let ls = read s.g.now s.doc.now f c.alt.left ch.0 in
        let last = last_owes (key_of f r).what (key_of f r) c ls ch.1 (λ p d what. (dots_within s.g.now s.doc.now f is.right r there p d what).0) ch.4 in
        let task = last_task f (key_of f r).what (key_of f r) c 0 in
        let all' = owe_child (old ++ task ∷ []) c.alt.left c.left (rest + last.0) ch.0 (owe_push old task rest last.0 all last.1) ch.3 in
        let whole : spelt_count (read s.g.now s.doc.now f (Some r) u) ≡ spelt_count ls + last.0 = ap (λ x. spelt_count (read s.g.now s.doc.now f (Some r) x)) ch.2 ∙ last.2 in
        (rest + last.0 + spelt_count ls, subst (λ (l : List Task). AllOwe s l (rest + last.0 + spelt_count ls)) (sym v.tasks) all', omega arith)

  -- what is counted of the last task is no longer owed
  pub next_owed : (old new : List Task) (task : Task) (count size size' whole : ℕ) → IsCountedOff s task old new count → size' ≡ capped (size + count) → (rest : ℕ) × AllOwe s (old ++ task ∷ []) rest × (capped (size + rest) ≡ whole) → (rest : ℕ) × AllOwe s new rest × (capped (size' + rest) ≡ whole)
  next_owed old new task count size size' whole off e (rest, all, is) =
      let p = owe_pop old task rest all in
      let r = off p.0 p.1 p.2 p.3 in
      (r.0, r.1, omega (arith, r.2, p.4))
