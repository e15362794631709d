-- What stands is closed: each step from what stands leads to what stands.
use Rattle.std.proofs.Common.{append-nil, append_assoc, ◌≡◌, ℕ, suc, ◌≤◌, List, [], ◌∷◌, ◌++◌, length, Some, refl, sym, ap, ◌∙◌, arith, inl, inr}
use Rattle.std.specs.Prelude.{slice_get, slice_range, Contains, IsTrue}
use Rattle.xs_regex.specs.declared.position.Position.{Position}
use Rattle.xs_regex.specs.Automaton.{HasAt, Leads, begins as run_begins, goes}
use Rattle.xs_gram.specs.declared.parts.GItem.{GItem}
use Rattle.xs_gram.specs.declared.parts.GItem.TheVariants.{Fixed, Non}
use Rattle.xs_gram.specs.declared.places.Place.{Place}
use Rattle.xs_gram.specs.Grammar.{Grammar, items, IsRuleOf, ItemAt}
use Rattle.xs_gram.specs.Derivations.{Parts, done, fixed, sub, FitsItems, parts_yield}
use Rattle.xs_gram.specs.Sound.{IsBuilt, IsNullable}
use Rattle.xs_gram.specs.Chart.{IsAutomatonOf, IsCalled, begins, calls, SpeltBefore, Stands}
use Rattle.xs_gram.specs.Places.{at_dot, at_inside}
use Rattle.xs_chart_laws.specs.Reading.{Reads}
use Rattle.xs_chart_laws.specs.Closed.{IsClosed}
use Rattle.xs_chart_laws.proofs.Words.{Reads-join, Reads-is, Reads-within, Reads-slice, Reads-same, Reads-from_slice}
use Rattle.xs_chart_laws.proofs.Spelling.{Spells-none, Spells-more, Spells-whole, lex_part, one_automaton}

-- a call's place lies inside the document
pub called_within : (g : Grammar) (w : List ℕ) (n i : ℕ) → IsCalled g w n i → i ≤ length w
called_within g w _ _ begins = omega arith
called_within g w _ _ (calls n h q e m s j c rule at le lw sp) = lw

-- to stand, with what was read as a word of its own
pub stood : (g : Grammar) (w : List ℕ) (c : Place) (n i j : ℕ) (u : List ℕ) → IsRuleOf g n c.rule → IsCalled g w n i → Reads w i u j → SpeltBefore g c u → Stands g w c i j
stood g w c n i j u rule called r b =
    let e = Reads-is w i u j r in
    (n, rule, called, omega arith, Reads-within w i u j (called_within g w n i called) r, rw (Reads-slice w i u j r) b)

pub stood_reads : (g : Grammar) (w : List ℕ) (c : Place) (i j : ℕ) → (st : Stands g w c i j) → Reads w i (slice_range w i j) j
stood_reads g w c i j st = Reads-from_slice w i j st.3 st.4

module _ (g : Grammar) (w : List ℕ) (built : IsBuilt g) where
  -- one more item
  pub more : (p n i j k : ℕ) (item : GItem) (rs : Parts) → Stands g w (at_dot p n) i j → ItemAt g p n item → FitsItems g (item ∷ []) rs → Reads w j (parts_yield rs) k → Stands g w (at_dot p (suc n)) i k
  more p n i j k item rs st at f r =
      stood g w (at_dot p (suc n)) st.0 i k (slice_range w i j ++ parts_yield rs) st.1 st.2
      (Reads-join w i (slice_range w i j) (parts_yield rs) j k (stood_reads g w (at_dot p n) i j st) r)
      (Spells-more g p n (slice_range w i j) item rs st.5 at f)

  pub starts : (p : ℕ) → IsRuleOf g g.start p → Stands g w (at_dot p 0) 0 0
  starts p r = stood g w (at_dot p 0) g.start 0 0 [] r begins refl (Spells-none g p)

  pub predicts : (p n i j m s q : ℕ) → Stands g w (at_dot p n) i j → ItemAt g p n (Non m s) → IsRuleOf g m q → Stands g w (at_dot q 0) j j
  predicts p n i j m s q st at r =
      stood g w (at_dot q 0) m j j [] r (calls st.0 i p n m s j st.2 st.1 at st.3 st.4 st.5) refl (Spells-none g q)

  pub passes : (p n i j : ℕ) (item : GItem) (a : Position) → Stands g w (at_dot p n) i j → ItemAt g p n item → IsAutomatonOf g item a → IsTrue a.nullable → Stands g w (at_dot p (suc n)) i j
  passes p n i j item a st at lex e =
      let rs = lex_part g built p n item a [] at lex (inl (refl, e)) in
      more p n i j j item rs.0 st at rs.1 (Reads-same w j [] (parts_yield rs.0) j (sym rs.2) refl)

  pub passes_non : (p n i j m s : ℕ) → Stands g w (at_dot p n) i j → ItemAt g p n (Non m s) → IsNullable g m → Stands g w (at_dot p (suc n)) i j
  passes_non p n i j m s st at d =
      more p n i j j (Non m s) (sub d.0.rule d.0.parts done) st at (d.1.0, d.1.1, tt)
      (Reads-same w j [] (parts_yield d.0.parts ++ []) j (sym d.2 ∙ sym (append-nil (parts_yield d.0.parts))) refl)

  pub enters : (p n i j k x : ℕ) (item : GItem) (a : Position) → Stands g w (at_dot p n) i j → ItemAt g p n item → IsAutomatonOf g item a → slice_get w j ≡ Some x → Contains a.first k → HasAt a k x → Stands g w (at_inside p n k) i (suc j)
  enters p n i j k x item a st at lex e f c =
      stood g w (at_inside p n k) st.0 i (suc j) (slice_range w i j ++ x ∷ []) st.1 st.2
      (Reads-join w i (slice_range w i j) (x ∷ []) j (suc j) (stood_reads g w (at_dot p n) i j st) (e, refl))
      (item, a, slice_range w i j, x ∷ [], at, lex, refl, st.5, run_begins x f c refl)

  pub steps : (p n i j k m x : ℕ) (item : GItem) (a : Position) → Stands g w (at_inside p n k) i j → ItemAt g p n item → IsAutomatonOf g item a → slice_get w j ≡ Some x → Leads a k m → HasAt a m x → Stands g w (at_inside p n m) i (suc j)
  steps p n i j k m x item a st at lex e f c =
      let b = st.5 in
      let same : b.0 ≡ item = cc in
      let b-is : b.1 ≡ a = one_automaton g b.0 item b.1 a same b.5 lex in
      stood g w (at_inside p n m) st.0 i (suc j) (slice_range w i j ++ x ∷ []) st.1 st.2
      (Reads-join w i (slice_range w i j) (x ∷ []) j (suc j) (stood_reads g w (at_inside p n k) i j st) (e, refl))
      (item, a, b.2, b.3 ++ x ∷ [], at, lex, rw b.6 (append_assoc b.2 b.3 (x ∷ [])), b.7, goes b.3 k x (rw b-is at b.8) f c refl)

  pub ends : (p n i j k : ℕ) (item : GItem) (a : Position) → Stands g w (at_inside p n k) i j → ItemAt g p n item → IsAutomatonOf g item a → Contains a.last k → Stands g w (at_dot p (suc n)) i j
  ends p n i j k item a st at lex l =
      let b = st.5 in
      let same : b.0 ≡ item = cc in
      let b-is : b.1 ≡ a = one_automaton g b.0 item b.1 a same b.5 lex in
      let rs = lex_part g built p n item a b.3 at lex (inr (k, (rw b-is at b.8), l)) in
      stood g w (at_dot p (suc n)) st.0 i j (slice_range w i j) st.1 st.2 (stood_reads g w (at_inside p n k) i j st)
      (let e : b.2 ++ parts_yield rs.0 ≡ slice_range w i j = ap (λ (z : List ℕ). b.2 ++ z) rs.2 ∙ sym b.6 in
      rw e at (Spells-more g p n b.2 item rs.0 b.7 at rs.1))

  pub reads : (p n i j k : ℕ) (f : List ℕ) → Stands g w (at_dot p n) i j → ItemAt g p n (Fixed f) → Reads w j f k → Stands g w (at_dot p (suc n)) i k
  reads p n i j k f st at r = more p n i j k (Fixed f) (fixed f done) st at (refl, tt) (Reads-same w j f (f ++ []) k (sym (append-nil f)) r)

  pub completes : (p n i j k m s q : ℕ) → Stands g w (at_dot p n) i j → ItemAt g p n (Non m s) → IsRuleOf g m q → Stands g w (at_dot q (length (items g q))) j k → Stands g w (at_dot p (suc n)) i k
  completes p n i j k m s q st at r ed =
      let ps = Spells-whole g q (slice_range w j k) ed.5 in
      more p n i j k (Non m s) (sub q ps.0 done) st at (r, ps.1, tt)
      (Reads-same w j (slice_range w j k) (parts_yield ps.0 ++ []) k (sym ps.2 ∙ sym (append-nil (parts_yield ps.0))) (stood_reads g w (at_dot q (length (items g q))) j k ed))

  pub standing_is_closed : IsClosed g w (λ j c i. Stands g w c i j)
  standing_is_closed = record { starts = starts; predicts = predicts; passes = passes; enters = enters; steps = steps; ends = ends; reads = reads; completes = completes }
