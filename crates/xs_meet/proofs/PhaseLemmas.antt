-- What a whole phase of a search has reached.
use Rattle.std.proofs.Common.{◌≡◌, ℕ, zero, suc, ◌+◌, ◌<◌, ◌&&◌, ◌||◌, ◌==◌, ◌⊎◌, Bool, List, [], ◌∷◌, ◌++◌, length, get_or, refl, sym, ap, subst, ◌∙◌, inl, inr, arith, true, false, eqb-true, IfSome, IfNone}
use Rattle.std.specs.List.{list_any}
use Rattle.xs_class.proofs.Truth.{and_true, both_true, or_left, or_right, eq_self, false_true}
use Rattle.std.specs.declared.option.Option.{Option}
use Rattle.std.specs.declared.option.Option.TheVariants.{Some, None}
use Rattle.std.proofs.lemmas.Bool.{cases_eq}
use Rattle.std.proofs.lemmas.Option.{slice_get-get_or, slice_get_within}
use Rattle.xs_class.proofs.Lists.{some_same, some_inj, get_of_two}
use Rattle.xs_meet.specs.declared.reached_pair.ReachedPair.{ReachedPair}
use Rattle.xs_meet.specs.declared.layer.Layer.{Layer}
use Rattle.xs_auto.specs.Marks.{Marks}
use Rattle.xs_auto.specs.Nets.{Graph, final_at, Walks}
use Rattle.xs_meet.specs.Searches.{step, IsAt, IsFound, Gains, Extends, Fits, IsFor, IsChained, IsLonger, KeepsArea, Closes, ClosesDrifts, Follows, InNets, EndsBoth, EndsNowhere, Seeds}
use Rattle.xs_meet.specs.declared.seat.Seat.TheVariants.{Second}
use Rattle.xs_meet.specs.declared.trace.Trace.{Trace}
use Rattle.xs_meet.specs.Closed.{HasNoFinals, AreApart, Leads, IsClosed}
use Rattle.xs_meet.specs.Traces.{IsSeeded, HasOnly, IsRoot, IsTurns, IsTrace, ArePieces}
use Rattle.xs_meet.proofs.GainLemmas.{area_then, extends_as}
use Rattle.xs_meet.proofs.SpreadLemmas.{same_step, longer_found}

-- a layer that fits is in range
pub in_area : (m n : Graph) (l k : Layer) (p : Marks) → IsFor m n l → KeepsArea l k → Fits k p → InNets m n k.steps.items
in_area m n l k p nets area f i s e = let r = f.in_range i s e in (rw (← nets.height, ← area.height) r.0, rw (← nets.width, ← area.width) r.1)

-- the steps of a layer that was empty are those that R means
gained : (R : ReachedPair → Type 0) (xs ys : List ReachedPair) → xs ≡ [] → Gains R xs ys → (k : ℕ) (s : ReachedPair) → IsAt ys k s → R s
gained R xs ys none g k s e = g.each k s (rw (g.is ∙ ap (λ us. us ++ g.added) none) at e)

-- a layer that was empty and was seeded by S has the steps that S means
pub only_seeds : (S : ReachedPair → Type 0) (k l : Layer) → k.steps.items ≡ [] → Extends S k l → HasOnly S l
only_seeds S k l none g = record { each = gained S k.steps.items l.steps.items none g.gains; there = g.gains.there }

-- a layer whose area is kept is for the same nets
pub for_kept : (m n : Graph) (k l : Layer) → IsFor m n k → KeepsArea k l → IsFor m n l
for_kept m n k l nets area = record { height = area.height ∙ nets.height; width = area.width ∙ nets.width }

-- what comes first in a layer that grew from the steps that S means
only_before : (S : ReachedPair → Type 0) (l o : Layer) → HasOnly S l → IsLonger l.steps.items o.steps.items → o.seeds ≡ length l.steps.items → (k : ℕ) (s : ReachedPair) → k < o.seeds → IsAt o.steps.items k s → S s
only_before S l o only longer seeds i s low e = elim (get_of_two l.steps.items longer.added i s (rw longer.is at e)) [
  | inl h ↦ only.each i s h
  | inr h ↦ absurd (omega (arith, low, h.1, seeds))
]

-- a layer that had the steps that S means, and was closed then
pub closed_only : (R : ℕ → ℕ → Type 0) (m n : Graph) (S : ReachedPair → Type 0) (l o : Layer) (p : Marks) → IsFor m n l → HasOnly S l → Fits o p → Closes R m n l o → IsSeeded R m n S o
closed_only R m n S l o p nets only f c = record {
  range = in_area m n l o p nets c.area f;
  seeded = only_before S l o only c.longer c.seeds;
  there = λ s r. longer_found c.longer (only.there s r);
  chained = rw c.seeds c.chained;
  closed = c.closed;
}

-- a layer that was empty, was seeded by S, and was closed then
pub closed_seeds : (R : ℕ → ℕ → Type 0) (m n : Graph) (S : ReachedPair → Type 0) (k l o : Layer) (p : Marks) → IsFor m n k → k.steps.items ≡ [] → Extends S k l → Fits o p → Closes R m n l o → IsSeeded R m n S o
closed_seeds R m n S k l o p nets none g = closed_only R m n S l o p (for_kept m n k l nets g.area) (only_seeds S k l none g)

-- the pair of the starts as a seed
pub root_seed : (m n : Graph) (a b : ℕ) {k l : Layer} → m.start ≡ Some a → n.start ≡ Some b → Extends (λ s. s ≡ step a b 0) k l → Extends (IsRoot m n) k l
root_seed m n a b e f g = extends_as (λ s. s ≡ step a b 0) (IsRoot m n) to back g
  where
    to : (s : ReachedPair) → s ≡ step a b 0 → IsRoot m n s
    to s h = rw h (record { first = e; second = f; from = refl })

    back : (s : ReachedPair) → IsRoot m n s → s ≡ step a b 0
    back s r = same_step s a b 0 (some_same _ _ _ r.first e) (some_same _ _ _ r.second f) r.from

-- a layer that was empty, was seeded by final front states, and was closed under empty moves then
pub closed_turns : (a b : Graph) (start : ℕ) (fronts : List ReachedPair) (k l o : Layer) (p : Marks) → IsFor a b k → k.steps.items ≡ [] → Extends (Seeds Second a start fronts) k l → Fits o p → ClosesDrifts a b l o → IsTurns a b start fronts o
closed_turns a b start fronts k l o p nets none g f c = record {
  range = in_area a b k o p nets (area_then g.area c.area) f;
  turned = λ i s e.
      let d = c.drifted i s e in
      let r = gained (Seeds Second a start fronts) k.steps.items l.steps.items none g.gains d.place d.seed d.at in
      let one : Walks a r.end.second [] s.first = rw r.other at d.first in
      let two : Walks b start [] s.second = rw r.starts at d.second in
      record { front = r.end; at = subst (λ k. IsAt fronts k r.end) (sym d.from) r.at; final = r.final; first = one; second = two };
  there = λ s r. longer_found c.longer (g.gains.there s r);
  closed = c.closed;
}

-- one more pair is not of two final states
pub no_end_more : (m n : Graph) (steps : List ReachedPair) (place : ℕ) (d : ReachedPair) → place < length steps → (final_at m (get_or steps place d).first ≡ true → final_at n (get_or steps place d).second ≡ true → ⊥) → ((k : ℕ) → k < place → EndsBoth m n steps k → ⊥) → (k : ℕ) → k < place + 1 → EndsBoth m n steps k → ⊥
no_end_more m n steps place d l here before k low e = elim (cases_eq k place) [
  | inl same ↦
      let one : e.end ≡ get_or steps place d = some_same _ _ _ (rw same at e.at) (slice_get-get_or steps place d l) in
      here (ap (λ s. final_at m s.first) (sym one) ∙ e.first) (ap (λ s. final_at n s.second) (sym one) ∙ e.second)
  | inr ne ↦ before k (omega arith) e
]

-- a search that stops at no end found all
pub closes_whole : (R : ℕ → ℕ → Type 0) (m n : Graph) {old new : Layer} (o : Option ℕ) → Follows R m n old new → IfSome o (λ k. (false ≡ true) × EndsBoth m n new.steps.items k) → IfNone o (IsClosed (Leads R m n) (IsFound new.steps.items)) → Closes R m n old new
closes_whole R m n None f ends all = record { area = f.area; longer = f.longer; seeds = f.seeds; chained = f.chained; closed = all }
closes_whole R m n (Some k) f ends all = absurd (false_true ends.0)

-- what a search that goes on from a layer keeps and finds
pub follows_of : {R : ℕ → ℕ → Type 0} {m n : Graph} {old new : Layer} → KeepsArea old new → IsLonger old.steps.items new.steps.items → new.seeds ≡ length old.steps.items → IsChained R m n (length old.steps.items) new.steps.items → Follows R m n old new
follows_of area longer seeds chained = record { area = area; longer = longer; seeds = seeds; chained = chained }

-- one more pair, from which a list grew, is not of two final states
pub no_end_longer : (m n : Graph) {xs ys : List ReachedPair} (place : ℕ) (s : ReachedPair) → IsAt xs place s → IsLonger xs ys → (final_at m s.first ≡ true → final_at n s.second ≡ true → ⊥) → ((k : ℕ) → k < place → EndsBoth m n xs k → ⊥) → (k : ℕ) → k < place + 1 → EndsBoth m n ys k → ⊥
no_end_longer m n {xs} place s here more not none k low e =
    let w = slice_get_within xs place s here in
    elim (get_of_two xs more.added k e.end (rw more.is at e.at)) [
      | inl h ↦ elim (cases_eq k place) [
        | inl same ↦
            let one : e.end ≡ s = some_same _ _ _ h (rw same here) in
            not (ap (λ t. final_at m t.first) (sym one) ∙ e.first) (ap (λ t. final_at n t.second) (sym one) ∙ e.second)
        | inr ne ↦ none k (omega arith) (record { end = e.end; at = h; first = e.first; second = e.second })
      ]
      | inr h ↦ absurd (omega (arith, h.1, w))
    ]

-- some step stands at each place of the list
pub there_at : (steps : List ReachedPair) (i : ℕ) → i < length steps → (s : ReachedPair) × IsAt steps i s
there_at steps i l = (get_or steps i (step 0 0 0), slice_get-get_or steps i (step 0 0 0) l)

-- a pair of two final states is one of the list
pub ends_within : (m n : Graph) (steps : List ReachedPair) (k : ℕ) → EndsBoth m n steps k → k < length steps
ends_within m n steps k e = slice_get_within steps k e.end e.at

-- a found pair of final states
pub found_end : (m n : Graph) (steps : List ReachedPair) → ((k : ℕ) → EndsBoth m n steps k → ⊥) → HasNoFinals m n (IsFound steps)
found_end m n steps none a b f p q = none f.place (record { end = step a b f.from; at = f.at; first = p; second = q })

-- whether a step reached the pair of a and b
abbrev is_found : List ReachedPair → ℕ → ℕ → Bool
is_found steps a b = list_any (λ s. (s.first == a) && (s.second == b)) steps

found_is : (steps : List ReachedPair) (a b k from : ℕ) → IsAt steps k (step a b from) → is_found steps a b ≡ true
found_is [] a b k from e = cc
found_is (x ∷ xs) a b zero from e =
    let same : x ≡ step a b from = some_inj _ _ e in
    or_left _ _ (both_true _ _ (ap (λ s. s.first == a) same ∙ eq_self a) (ap (λ s. s.second == b) same ∙ eq_self b))
found_is (x ∷ xs) a b (suc k) from e = or_right _ _ (found_is xs a b k from e)

pub either_true : (a b : Bool) → (a || b) ≡ true → (a ≡ true) ⊎ (b ≡ true)
either_true true b e = inl refl
either_true false b e = inr e

is_found_one : (steps : List ReachedPair) (a b : ℕ) → is_found steps a b ≡ true → IsFound steps a b
is_found_one [] a b e = absurd (false_true e)
is_found_one (x ∷ xs) a b e = elim (either_true _ _ e) [
  | inl h ↦
      let q = and_true _ _ h in
      record { place = 0; from = x.from; at = ap Some (same_step x a b x.from (eqb-true _ _ q.0) (eqb-true _ _ q.1) refl) }
  | inr h ↦ let f = is_found_one xs a b h in record { place = suc f.place; from = f.from; at = f.at }
]

found_as : (steps : List ReachedPair) (a b : ℕ) → IsFound steps a b → is_found steps a b ≡ true
found_as steps a b f = found_is steps a b f.place f.from f.at

-- a closed layer of the pair of the starts without a pair of two final states shows that no word is
-- shared
pub ends_apart : (R : ℕ → ℕ → Type 0) (m n : Graph) (l o : Layer) → HasOnly (IsRoot m n) l → Follows R m n l o → EndsNowhere R m n o.steps.items → AreApart R m n
ends_apart R m n l o root f none =
    let found = o.steps.items in (
      is_found found,
      record {
        starts = λ a b p q. found_as found a b (longer_found f.longer (root.there (step a b 0) (record { first = p; second = q; from = refl })));
        closed = λ a b c d z leads. found_as found c d (none.closed a b c d (is_found_one found a b z) leads);
        none = λ a b z. found_end m n found none.none a b (is_found_one found a b z);
      },
    )

-- the steps of such a layer after the pair of the starts are chained
pub follows_chained : (R : ℕ → ℕ → Type 0) (m n : Graph) (l o : Layer) → Follows R m n l o → IsChained R m n o.seeds o.steps.items
follows_chained R m n l o f = rw f.seeds f.chained

-- pieces that lead from the starts to a pair of two final states spell words that are shared
pub ends_pieces : (R : ℕ → ℕ → Type 0) (m n : Graph) (l o : Layer) (place : ℕ) (t : Trace) → HasOnly (IsRoot m n) l → Follows R m n l o → EndsBoth m n o.steps.items place → IsTrace R m n o place t → ArePieces R m n t.pieces.items
ends_pieces R m n l o place t only f e h =
    let w = h.traced in
    let root = only_before (IsRoot m n) l o only f.longer f.seeds t.seed w.first h.seed w.begins in
    let end : w.last ≡ e.end = some_same _ _ _ w.ends e.at in
    record {
      related = w.related;
      shared = λ nest u spells. record {
        first = record { first = w.first.first; last = w.last.first; starts = root.first; crosses = w.crosses_first nest u spells; final = ap (λ s. final_at m s.first) end ∙ e.first };
        second = record { first = w.first.second; last = w.last.second; starts = root.second; crosses = w.crosses_second nest u spells; final = ap (λ s. final_at n s.second) end ∙ e.second };
      };
    }
