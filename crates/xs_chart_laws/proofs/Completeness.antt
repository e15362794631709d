-- What stands is in all sets that are closed.
use Rattle.std.proofs.Common.{append-nil, take-append-drop, length-take-le, ◌≡◌, ℕ, suc, ◌+◌, List, [], ◌∷◌, ◌++◌, length, take, drop, Option, Some, None, refl, sym, ◌∙◌, arith, inl, inr}
use Rattle.std.specs.Prelude.{slice_range}
use Rattle.xs_regex.specs.declared.position.Position.{Position}
use Rattle.xs_regex.specs.Automaton.{Runs, begins as run_begins, goes, Accepts}
use Rattle.xs_gram.specs.declared.parts.GItem.{GItem}
use Rattle.xs_gram.specs.declared.parts.GItem.TheVariants.{Fixed, Term, Non, Skip}
use Rattle.xs_gram.specs.declared.places.Place.{Place}
use Rattle.xs_gram.specs.Grammar.{Grammar, term_of, skip_of, items, IsRuleOf, ItemAt}
use Rattle.xs_gram.specs.Derivations.{Parts, done, fixed, leaf, skip, sub, FitsItems, parts_yield}
use Rattle.xs_gram.specs.Sound.{IsBuilt}
use Rattle.xs_gram.specs.Chart.{Spells, IsAutomatonOf, IsCalled, begins, calls, Stands}
use Rattle.xs_gram.specs.Places.{at_dot, at_inside}
use Rattle.xs_chart_laws.specs.Reading.{Reads}
use Rattle.xs_chart_laws.specs.Closed.{IsClosed, HasAllThatStand}
use Rattle.xs_chart_laws.proofs.Words.{drop_get, Reads-split, Reads-same, Reads-from_slice}
use Rattle.xs_chart_laws.proofs.Spelling.{term_agrees, skip_agrees}

-- the dot after the items
abbrev pub after : ℕ → List GItem → ℕ
after d [] = d
after d (item ∷ is) = after (suc d) is

pub after-is : (d : ℕ) (is : List GItem) → after d is ≡ d + length is
after-is d [] = omega arith
after-is d (item ∷ is) = omega (arith, after-is (suc d) is)

pub after_zero : (is : List GItem) → after 0 is ≡ length is
after_zero is = omega (arith, after-is 0 is)

module _ (g : Grammar) (w : List ℕ) (has : ℕ → Place → ℕ → Type 0) (closed : IsClosed g w has) (built : IsBuilt g) where
  -- a run of an item's automaton from the item's front
  pub over_run : (p n i j : ℕ) (item : GItem) (a : Position) (u : List ℕ) (m l : ℕ) → ItemAt g p n item → IsAutomatonOf g item a → has j (at_dot p n) i → Runs a u m → Reads w j u l → has l (at_inside p n m) i
  over_run p n i j item a _ _ l at lex h (run_begins {w = u} {k = m} x f c is) r =
      let r' : Reads w j (x ∷ []) l = Reads-same w j u (x ∷ []) l is r in
      rw (← r'.1) (closed.enters p n i j m x item a h at lex r'.0 f c)
  over_run p n i j item a _ _ l at lex h (goes {w = u} {k = m} v k x run f c is) r =
      let s = Reads-split w j v (x ∷ []) l (Reads-same w j u (v ++ x ∷ []) l is r) in
      rw (← s.2.1) (closed.steps p n i s.0 k m x item a (over_run p n i j item a v k s.0 at lex h run s.1) at lex s.2.0 f c)

  pub over_lex : (p n i j : ℕ) (item : GItem) (a : Position) (u : List ℕ) (l : ℕ) → ItemAt g p n item → IsAutomatonOf g item a → has j (at_dot p n) i → Accepts a u → Reads w j u l → has l (at_dot p (suc n)) i
  over_lex p n i j item a u l at lex h (inl e) r =
      let e' : j ≡ l = rw e.0 at r in rw e' at (closed.passes p n i j item a h at lex e.1)
  over_lex p n i j item a u l at lex h (inr s) r =
      closed.ends p n i l s.0 item a (over_run p n i j item a u s.0 l at lex h s.1 r) at lex s.2

  pub over : (p d i j : ℕ) (is : List GItem) (ps : Parts) (post : List GItem) (k : ℕ) → drop d (items g p) ≡ is ++ post → FitsItems g is ps → has j (at_dot p d) i → Reads w j (parts_yield ps) k → has k (at_dot p (after d is)) i
  over p d i j [] done post k e f h r = rw r at h
  over p d i j (Fixed v ∷ is) (fixed u ps) post k e f h r =
      let at = drop_get (items g p) d (Fixed v) (is ++ post) e in
      let s = Reads-split w j u (parts_yield ps) k r in
      over p (suc d) i s.0 is ps post k at.1 f.1 (closed.reads p d i j s.0 v h at.0 (Reads-same w j u v s.0 f.0 s.1)) s.2
  over p d i j (Term t v ∷ is) (leaf u ps) post k e f h r =
      let at = drop_get (items g p) d (Term t v) (is ++ post) e in
      let s = Reads-split w j u (parts_yield ps) k r in
      let acc = ((term_agrees g built p d t v at.0).accepts u).0 f.0 in
      over p (suc d) i s.0 is ps post k at.1 f.1 (over_lex p d i j (Term t v) (term_of g t).automaton u s.0 at.0 refl h acc s.1) s.2
  over p d i j (Skip t ∷ is) (skip u ps) post k e f h r =
      let at = drop_get (items g p) d (Skip t) (is ++ post) e in
      let s = Reads-split w j u (parts_yield ps) k r in
      let acc = ((skip_agrees g built p d t at.0).accepts u).0 f.0 in
      over p (suc d) i s.0 is ps post k at.1 f.1 (over_lex p d i j (Skip t) (skip_of g t).automaton u s.0 at.0 refl h acc s.1) s.2
  over p d i j (Non m v ∷ is) (sub q qs ps) post k e f h r =
      let at = drop_get (items g p) d (Non m v) (is ++ post) e in
      let s = Reads-split w j (parts_yield qs) (parts_yield ps) k r in
      let called = over q 0 j j (items g q) qs [] s.0 (sym (append-nil (items g q))) f.1 (closed.predicts p d i j m v q h at.0 f.0) s.1 in
      let ended = rw after_zero at called in
      over p (suc d) i s.0 is ps post k at.1 f.2 (closed.completes p d i j s.0 m v q h at.0 f.0 ended) s.2
  over p d i j _ _ post k e f h r = absurd f

  pub spelt : (p n i j : ℕ) (u : List ℕ) → Reads w i u j → Spells g p n u → has i (at_dot p 0) i → has j (at_dot p n) i
  spelt p n i j u r sp h =
      let r' = Reads-same w i u (parts_yield sp.1) j (sym sp.3) r in
      let there = over p 0 i i (take n (items g p)) sp.1 (drop n (items g p)) j (sym (take-append-drop n (items g p))) sp.2 h r' in
      let e : after 0 (take n (items g p)) ≡ n = after_zero (take n (items g p)) ∙ length-take-le n (items g p) sp.0 in
      rw e at there

  pub called_rules : (n i : ℕ) → IsCalled g w n i → (q : ℕ) → IsRuleOf g n q → has i (at_dot q 0) i
  called_rules _ _ begins q r = closed.starts q r
  called_rules _ _ (calls n h q e m s j c rule at le lw sp) p r =
      closed.predicts q e h j m s p (spelt q e h j (slice_range w h j) (Reads-from_slice w h j le lw) sp (called_rules n h c q rule)) at r

  in_closed : (p n : ℕ) (o : Option ℕ) (i j : ℕ) → Stands g w (record { rule = p; dot = n; inside = o }) i j → has j (record { rule = p; dot = n; inside = o }) i
  in_closed p n None i j st = spelt p n i j (slice_range w i j) (Reads-from_slice w i j st.3 st.4) st.5 (called_rules st.0 i st.2 p st.1)
  in_closed p n (Some k) i j st =
      let b = st.5 in
      let r = Reads-split w i b.2 b.3 j (Reads-same w i (slice_range w i j) (b.2 ++ b.3) j b.6 (Reads-from_slice w i j st.3 st.4)) in
      over_run p n i r.0 b.0 b.1 b.3 k j b.4 b.5 (spelt p n i r.0 b.2 r.1 b.7 (called_rules st.0 i st.2 p st.1)) b.8 r.2

  -- each item that stands is in the sets
  pub complete : HasAllThatStand g w has
  complete c i j st = in_closed c.rule c.dot c.inside i j st
