-- Which fronts of a document begin a word of the language.
use Rattle.std.proofs.Common.{take-add, append-nil, append_assoc, take-append-drop, ◌≡◌, ℕ, suc, ◌+◌, ◌-◌, ◌≤◌, List, [], ◌∷◌, ◌++◌, length, take, drop, Some, None, refl, sym, ◌∙◌, subst, arith, ◌⊎◌, inl, inr, ◌↔◌}
use Rattle.std.specs.declared.option.Option.{Option}
use Rattle.std.specs.Prelude.{slice_get, slice_range}
use Rattle.xs_class.proofs.Lists.{get_drop}
use Rattle.xs_regex.specs.declared.position.Position.{Position}
use Rattle.xs_regex.specs.Automaton.{Runs, begins as run_begins, goes, Accepts}
use Rattle.xs_gram.specs.declared.parts.GItem.{GItem}
use Rattle.xs_gram.specs.declared.parts.GItem.TheVariants.{Fixed, Term, Non, Skip}
use Rattle.xs_gram.specs.declared.places.Place.{Place}
use Rattle.xs_gram.specs.Grammar.{Grammar, term_of, skip_of, items, ItemAt}
use Rattle.xs_gram.specs.Derivations.{Parts, done, fixed, leaf, skip, sub, Derivation, FitsItems, Fits, parts_yield, yield}
use Rattle.xs_gram.specs.Languages.{IsFront}
use Rattle.xs_gram.specs.Sound.{IsBuilt, IsSound}
use Rattle.xs_gram.specs.Chart.{Spells, IsAutomatonOf, IsCalled, begins, calls, SpeltBefore, Stands}
use Rattle.xs_gram.specs.Places.{at_dot, at_inside}
use Rattle.xs_chart_laws.specs.Reading.{Reads}
use Rattle.xs_chart_laws.specs.Closed.{IsClosed, AllStand, HasAllThatStand, IsReached}
use Rattle.xs_chart_laws.proofs.Words.{drop_get, Reads-split, Reads-is, Reads-within, Reads-slice, Reads-same, Reads-from_slice}
use Rattle.xs_chart_laws.specs.Parts.{parts_then}
use Rattle.xs_chart_laws.proofs.Spelling.{then-yield, then-fits, Spells-more, term_agrees, skip_agrees, lex_part}
use Rattle.xs_gram.proofs.Numbers.{as_dot}
use Rattle.xs_chart_laws.proofs.Standing.{starts}
use Rattle.xs_chart_laws.proofs.Completeness.{over, over_lex, over_run, after_zero}
use Rattle.xs_chart_laws.proofs.Fillings.{filled, ended}

-- of two fronts of one word, one is a front of the other
fronts : (x a u v : List ℕ) → x ++ a ≡ u ++ v → ((y : List ℕ) × (u ≡ x ++ y) × (a ≡ y ++ v)) ⊎ ((y : List ℕ) × (x ≡ u ++ y) × (v ≡ y ++ a))
fronts [] a u v e = inl (u, refl, e)
fronts (s ∷ x) a [] v e = inr (s ∷ x, refl, sym e)
fronts (s ∷ x) a (t ∷ u) v e = go (fronts x a u v (cc))
  where
    go : ((y : List ℕ) × (u ≡ x ++ y) × (a ≡ y ++ v)) ⊎ ((y : List ℕ) × (x ≡ u ++ y) × (v ≡ y ++ a)) → ((y : List ℕ) × (t ∷ u ≡ (s ∷ x) ++ y) × (a ≡ y ++ v)) ⊎ ((y : List ℕ) × (s ∷ x ≡ (t ∷ u) ++ y) × (v ≡ y ++ a))
    go (inl h) = inl (h.0, (cc), h.2)
    go (inr h) = inr (h.0, (cc), h.2)

-- a front of a word by which an automaton runs, which is not empty, is one by which it runs
run_front : (a : Position) (w : List ℕ) (m x : ℕ) (u y : List ℕ) → Runs a w m → w ≡ (x ∷ u) ++ y → (k : ℕ) × Runs a (x ∷ u) k
run_front a _ _ x u y (run_begins {w = w} {k = m} s f c is) e = (m, run_begins s f c (one s x u y (sym is ∙ e)))
  where
    one : (s x : ℕ) (u y : List ℕ) → s ∷ [] ≡ (x ∷ u) ++ y → x ∷ u ≡ s ∷ []
    one s x [] y e = cc
    one s x (z ∷ u) y e = cc
run_front a _ _ x u y (goes {w = w} {k = m} v j s run l c is) e = last (λ z here. run_front a v j x u z run here) (fronts v (s ∷ []) (x ∷ u) y (sym is ∙ e))
  where
    one : (t : ℕ) (z : List ℕ) → s ∷ [] ≡ (t ∷ z) ++ y → v ++ t ∷ z ≡ v ++ s ∷ []
    one t [] e = cc
    one t (r ∷ z) e = cc

    last : ((z : List ℕ) → v ≡ (x ∷ u) ++ z → (k : ℕ) × Runs a (x ∷ u) k) → ((z : List ℕ) × (x ∷ u ≡ v ++ z) × (s ∷ [] ≡ z ++ y)) ⊎ ((z : List ℕ) × (v ≡ (x ∷ u) ++ z) × (y ≡ z ++ s ∷ [])) → (k : ℕ) × Runs a (x ∷ u) k
    last shorter (inl ([], here, rest)) = shorter [] (sym (append-nil v) ∙ sym here ∙ sym (append-nil (x ∷ u)))
    last shorter (inl (t ∷ z, here, rest)) = (m, goes v j s run l c (here ∙ one t z rest))
    last shorter (inr (z, here, rest)) = shorter z here

module _ (g : Grammar) (w : List ℕ) (has : ℕ → Place → ℕ → Type 0) (closed : IsClosed g w has) (built : IsBuilt g) where
  -- the word that is read ends inside the word of a terminal or an ignorable
  cut_lex : (p n i j : ℕ) (item : GItem) (a : Position) (u y : List ℕ) (k : ℕ) → ItemAt g p n item → IsAutomatonOf g item a → has j (at_dot p n) i → Accepts a (u ++ y) → Reads w j u k → IsReached g w has k
  cut_lex p n i j item a [] y k at lex h acc r = (j, at_dot p n, i, h, inl (sym r))
  cut_lex p n i j item a (x ∷ u) y k at lex h (inl e) r = cc
  cut_lex p n i j item a (x ∷ u) y k at lex h (inr s) r =
      let f = run_front a ((x ∷ u) ++ y) s.0 x u y s.1 refl in
      (k, at_inside p n f.0, i, over_run g w has closed built p n i j item a (x ∷ u) f.0 k at lex h f.1 r, inl refl)

  cut : (p d i j : ℕ) (is : List GItem) (ps : Parts) (post : List GItem) (u v : List ℕ) (k : ℕ) → drop d (items g p) ≡ is ++ post → FitsItems g is ps → has j (at_dot p d) i → parts_yield ps ≡ u ++ v → Reads w j u k → IsReached g w has k
  cut p d i j [] done post [] v k e f h y r = (j, at_dot p d, i, h, inl (sym r))
  cut p d i j [] done post (x ∷ u) v k e f h y r = cc
  cut p d i j (Fixed z ∷ is) (fixed t ps) post u v k e f h y r =
      let at = drop_get (items g p) d (Fixed z) (is ++ post) e in
      elim (fronts t (parts_yield ps) u v y) [
        | inl b ↦
            let s = Reads-split w j t b.0 k (Reads-same w j u (t ++ b.0) k b.1 r) in
            cut p (suc d) i s.0 is ps post b.0 v k at.1 f.1 (closed.reads p d i j s.0 z h at.0 (Reads-same w j t z s.0 f.0 s.1)) b.2 s.2
        | inr b ↦
            let same : z ≡ u ++ b.0 = cc in
            (j, at_dot p d, i, h, inr (u, b.0, refl, rw same at at.0, r))
      ]
  cut p d i j (Term t z ∷ is) (leaf s ps) post u v k e f h y r =
      let at = drop_get (items g p) d (Term t z) (is ++ post) e in
      let acc = ((term_agrees g built p d t z at.0).accepts s).0 f.0 in
      elim (fronts s (parts_yield ps) u v y) [
        | inl b ↦
            let c = Reads-split w j s b.0 k (Reads-same w j u (s ++ b.0) k b.1 r) in
            cut p (suc d) i c.0 is ps post b.0 v k at.1 f.1 (over_lex g w has closed built p d i j (Term t z) (term_of g t).automaton s c.0 at.0 refl h acc c.1) b.2 c.2
        | inr b ↦ cut_lex p d i j (Term t z) (term_of g t).automaton u b.0 k at.0 refl h (rw b.1 at acc) r
      ]
  cut p d i j (Skip t ∷ is) (skip s ps) post u v k e f h y r =
      let at = drop_get (items g p) d (Skip t) (is ++ post) e in
      let acc = ((skip_agrees g built p d t at.0).accepts s).0 f.0 in
      elim (fronts s (parts_yield ps) u v y) [
        | inl b ↦
            let c = Reads-split w j s b.0 k (Reads-same w j u (s ++ b.0) k b.1 r) in
            cut p (suc d) i c.0 is ps post b.0 v k at.1 f.1 (over_lex g w has closed built p d i j (Skip t) (skip_of g t).automaton s c.0 at.0 refl h acc c.1) b.2 c.2
        | inr b ↦ cut_lex p d i j (Skip t) (skip_of g t).automaton u b.0 k at.0 refl h (rw b.1 at acc) r
      ]
  cut p d i j (Non m z ∷ is) (sub q qs ps) post u v k e f h y r =
      let at = drop_get (items g p) d (Non m z) (is ++ post) e in
      let called = closed.predicts p d i j m z q h at.0 f.0 in
      let whole = sym (append-nil (items g q)) in
      elim (fronts (parts_yield qs) (parts_yield ps) u v y) [
        | inl b ↦
            let c = Reads-split w j (parts_yield qs) b.0 k (Reads-same w j u (parts_yield qs ++ b.0) k b.1 r) in
            let end = rw after_zero at (over g w has closed built q 0 j j (items g q) qs [] c.0 whole f.1 called c.1) in
            cut p (suc d) i c.0 is ps post b.0 v k at.1 f.2 (closed.completes p d i j c.0 m z q h at.0 f.0 end) b.2 c.2
        | inr b ↦ cut q 0 j j (items g q) qs [] u b.0 k whole f.1 called b.1 r
      ]
  cut p d i j _ _ post u v k e f h y r = absurd f

  Reads-take : (k : ℕ) → k ≤ length w → Reads w 0 (take k w) k
  Reads-take k h = rw (e) at (Reads-from_slice w 0 k (omega arith) h)
    where
      e : slice_range w 0 k ≡ take k w
      e = let d : k - 0 ≡ k = omega arith in rw d

  -- a front of a word of the language is reached
  pub front_reached : (k : ℕ) → k ≤ length w → IsFront g (take k w) → IsReached g w has k
  front_reached k h (v, (d, ((rule, f), e))) =
      cut d.rule 0 0 0 (items g d.rule) d.parts [] (take k w) v k (sym (append-nil (items g d.rule))) f (closed.starts d.rule rule) e (Reads-take k h)

end_word : (u u0 v0 rs v1 v2 y : List ℕ) → u ≡ u0 ++ v0 → rs ≡ v0 ++ v1 → y ≡ (u0 ++ rs) ++ v2 → y ≡ u ++ (v1 ++ v2)
end_word u u0 v0 rs v1 v2 y a b c = c ∙ rw (a, b) (simp append_assoc)

climb_word : (tj th s x t1 y r1 z : List ℕ) → th ++ s ≡ tj → y ≡ (s ++ (x ++ [])) ++ t1 → z ≡ (th ++ y) ++ r1 → z ≡ (tj ++ x) ++ (t1 ++ r1)
climb_word tj th s x t1 y r1 z a b c = c ∙ rw (← a, b) (simp (append_assoc, append-nil))

front_word : (tj ti s t1 y r1 z : List ℕ) → ti ++ s ≡ tj → y ≡ s ++ t1 → z ≡ (ti ++ y) ++ r1 → z ≡ tj ++ (t1 ++ r1)
front_word tj ti s t1 y r1 z a b c = c ∙ rw (← a, b) (simp append_assoc)

fixed_word : (tk tj ti s u f t1 y r1 z : List ℕ) → ti ++ s ≡ tj → tj ++ u ≡ tk → y ≡ (s ++ ((u ++ f) ++ [])) ++ t1 → z ≡ (ti ++ y) ++ r1 → z ≡ tk ++ (f ++ (t1 ++ r1))
fixed_word tk tj ti s u f t1 y r1 z a b c d = d ∙ rw (← b, ← a, c) (simp (append_assoc, append-nil))

module _ (g : Grammar) (w : List ℕ) (sound : IsSound g) where
  fill : (is : List GItem) → ((k : ℕ) (item : GItem) → slice_get is k ≡ Some item → (rs : Parts) × FitsItems g (item ∷ []) rs) → (ps : Parts) × FitsItems g is ps
  fill [] h = (done, tt)
  fill (item ∷ is) h =
      let one = h 0 item refl in
      let rest = fill is (λ k at e. h (suc k) at e) in
      (parts_then one.0 rest.0, then-fits g (item ∷ []) is one.0 rest.0 one.1 rest.1)

  -- a rule of which the front has been spelt can be spelt to its end
  end_dot : (p n : ℕ) (u : List ℕ) → Spells g p n u → (ps : Parts) × (v : List ℕ) × FitsItems g (items g p) ps × (parts_yield ps ≡ u ++ v)
  end_dot p n u sp =
      let rest = fill (drop n (items g p)) (λ k item e. filled g sound p (n + k) item (rw get_drop at e)) in
      let fits = then-fits g (take n (items g p)) (drop n (items g p)) sp.1 rest.0 sp.2 rest.1 in (
        parts_then sp.1 rest.0,
        parts_yield rest.0,
        rw take-append-drop at fits,
        rw (then-yield sp.1 rest.0, sp.3),
      )

  end_spelt : (p n : ℕ) (o : Option ℕ) (u : List ℕ) → SpeltBefore g (record { rule = p; dot = n; inside = o }) u → (ps : Parts) × (v : List ℕ) × FitsItems g (items g p) ps × (parts_yield ps ≡ u ++ v)
  end_spelt p n None u b = end_dot p n u b
  end_spelt p n (Some k) u b =
      let t = ended g sound p n b.0 b.1 b.3 k b.4 b.5 b.8 in
      let rs = lex_part g sound.built p n b.0 b.1 (b.3 ++ t.0) b.4 b.5 t.1 in
      let e = end_dot p (suc n) (b.2 ++ parts_yield rs.0) (Spells-more g p n b.2 b.0 rs.0 b.7 b.4 rs.1) in
      (e.0, t.0 ++ e.1, e.2, end_word u b.2 b.3 (parts_yield rs.0) t.0 e.1 (parts_yield e.0) b.6 rs.2 e.3)

  take-slice : (h i : ℕ) → h ≤ i → i ≤ length w → take h w ++ slice_range w h i ≡ take i w
  take-slice h i le lw = let e : h + (i - h) ≡ i = omega arith in sym (rw e at (take-add h (i - h) w))

  -- a derivation of a nonterminal that is called stands in a word of the language
  climb : (n i : ℕ) → IsCalled g w n i → (d : Derivation) → Fits g n d → IsFront g (take i w ++ yield d)
  climb _ _ begins d f = ([], (d, (f, sym (append-nil (yield d)))))
  climb _ _ (calls n h q e m s j c rule at le lw sp) d f =
      let t = end_dot q (suc e) (slice_range w h j ++ parts_yield (sub d.rule d.parts done)) (Spells-more g q e (slice_range w h j) (Non m s) (sub d.rule d.parts done) sp at (f.0, f.1, tt)) in
      let r = climb n h c (record { rule = q; parts = t.0 }) (rule, t.2) in
      (t.1 ++ r.0, (r.1.0, (r.1.1.0, climb_word (take j w) (take h w) (slice_range w h j) (yield d) t.1 (parts_yield t.0) r.0 (yield r.1.0) (take-slice h j le lw) t.3 r.1.1.1)))

  stands_front : (p n : ℕ) (o : Option ℕ) (i j : ℕ) → Stands g w (record { rule = p; dot = n; inside = o }) i j → IsFront g (take j w)
  stands_front p n o i j st =
      let t = end_spelt p n o (slice_range w i j) st.5 in
      let r = climb st.0 i st.2 (record { rule = p; parts = t.0 }) (st.1, t.2) in
      (t.1 ++ r.0, (r.1.0, (r.1.1.0, front_word (take j w) (take i w) (slice_range w i j) t.1 (parts_yield t.0) r.0 (yield r.1.0) (take-slice i j st.3 st.4) t.3 r.1.1.1)))

  fixed_front : (p n i j : ℕ) (u y : List ℕ) (k : ℕ) → Stands g w (at_dot p n) i j → ItemAt g p n (Fixed (u ++ y)) → Reads w j u k → IsFront g (take k w)
  fixed_front p n i j u y k st at r =
      let t = end_dot p (suc n) (slice_range w i j ++ parts_yield (fixed (u ++ y) done)) (Spells-more g p n (slice_range w i j) (Fixed (u ++ y)) (fixed (u ++ y) done) st.5 at (refl, tt)) in
      let c = climb st.0 i st.2 (record { rule = p; parts = t.0 }) (st.1, t.2) in
      let k-is = Reads-is w j u k r in
      let le : j ≤ k = omega arith in
      let e = take-slice i j st.3 st.4 in
      let e' = take-slice j k le (Reads-within w j u k st.4 r) in
      (y ++ (t.1 ++ c.0), (c.1.0, (c.1.1.0, fixed_word (take k w) (take j w) (take i w) (slice_range w i j) u y t.1 (parts_yield t.0) c.0 (yield c.1.0) e (rw (Reads-slice w j u k r) at e') t.3 c.1.1.1)))

  -- what is reached is a front of a word of the language
  pub reached_front : (k : ℕ) → IsReached g w (λ j c i. Stands g w c i j) k → IsFront g (take k w)
  reached_front k (j, c, i, st, inl e) = subst (λ m. IsFront g (take m w)) (sym e) (stands_front c.rule c.dot c.inside i j st)
  reached_front k (j, c, i, st, inr (u, rest, none, at, r)) =
      fixed_front c.rule c.dot i j u rest k (subst (λ d. Stands g w d i j) (sym (as_dot c none)) st) at r

-- more items reach no less
pub reached_by_more : (g : Grammar) (w : List ℕ) (has more : ℕ → Place → ℕ → Type 0) → ((c : Place) (i j : ℕ) → has j c i → more j c i) → (k : ℕ) → IsReached g w has k → IsReached g w more k
reached_by_more g w has more f k (j, c, i, h, r) = (j, c, i, f c i j h, r)

-- what is reached lies in the document
pub reached_within : (g : Grammar) (w : List ℕ) (has : ℕ → Place → ℕ → Type 0) → AllStand g w has → (k : ℕ) → IsReached g w has k → k ≤ length w
reached_within g w has all k (j, c, i, h, inl e) = let st = all c i j h in omega (arith, e, st.4)
reached_within g w has all k (j, c, i, h, inr (u, rest, none, at, r)) = Reads-within w j u k (all c i j h).4 r

-- the front of the document is reached
pub start_reached : (g : Grammar) (w : List ℕ) (has : ℕ → Place → ℕ → Type 0) → IsSound g → HasAllThatStand g w has → IsReached g w has 0
start_reached g w has sound complete =
    let d = sound.productive g.start sound.built.range.start in
    (0, at_dot d.0.rule 0, 0, complete (at_dot d.0.rule 0) 0 0 (starts g w sound.built d.0.rule d.1.0), inl refl)

pub front_is_reached : (g : Grammar) (w : List ℕ) (has : ℕ → Place → ℕ → Type 0) → IsSound g → IsClosed g w has → AllStand g w has → (k : ℕ) → k ≤ length w → IsFront g (take k w) ↔ IsReached g w has k
front_is_reached g w has sound closed all k le = (
  front_reached g w has closed sound.built k le,
  (λ r. reached_front g w sound k (reached_by_more g w has (λ j c i. Stands g w c i j) all k r)),
)
