-- A forest grown from an exact chart is right.
use Rattle.std.proofs.Common.{append-nil, ◌≡◌, ℕ, zero, suc, ◌<◌, ◌≤◌, List, [], ◌∷◌, ◌++◌, length, take, refl, sym, ◌∙◌, arith, subst}
use Rattle.std.proofs.Math.Seq.{take-length}
use Rattle.std.specs.Prelude.{slice_range, Contains}
use Rattle.xs_gram.specs.declared.parts.GItem.{GItem}
use Rattle.xs_gram.specs.declared.parts.GItem.TheVariants.{Fixed, Term, Non, Skip}
use Rattle.xs_gram.specs.declared.places.Place.{Place}
use Rattle.xs_gram.specs.Grammar.{Grammar, items, IsRuleOf, ItemAt, IsTermWord, IsSkipWord}
use Rattle.xs_gram.specs.Derivations.{done, fixed, leaf, skip, sub, parts_yield}
use Rattle.xs_gram.specs.Chart.{IsCalled, calls, Stands}
use Rattle.xs_gram.specs.Places.{at_dot}
use Rattle.xs_chart_laws.specs.Reading.{Reads}
use Rattle.xs_chart_laws.proofs.Words.{get_lt, Reads-is, Reads-within, Reads-slice, Reads-same, Reads-from_slice}
use Rattle.xs_chart_laws.proofs.Standing.{stood}
use Rattle.xs_forest.specs.declared.row.Alt.{Alt}
use Rattle.xs_forest_laws.specs.declared.span.What.{What}
use Rattle.xs_forest_laws.specs.declared.span.What.TheVariants.{Whole, Front}
use Rattle.xs_forest_laws.specs.Forest.{Forest, alts_of, IsRow, IsSpelt, WholeAlt, FrontAlt, IsAlt, IsRight}
use Rattle.xs_forest_laws.specs.Grown.{IsExactChart, ItemOver, IsAltBy, IsGrown}

one_non : (g : Grammar) (m n q : ℕ) → IsRuleOf g m q → IsRuleOf g n q → m ≡ n
one_non g m n q a b = sym a.1 ∙ b.1

module _ (g : Grammar) (w : List ℕ) where
  -- what stands is spelt
  pub dot_spelt : (p d i j : ℕ) → Stands g w (at_dot p d) i j → IsSpelt g w (take d (items g p)) i j
  dot_spelt p d i j st =
      let sp = st.5 in
      (sp.1, (sp.2, Reads-same w i (slice_range w i j) (parts_yield sp.1) j (sym sp.3) (Reads-from_slice w i j st.3 st.4)))

  pub whole_spelt : (p i j : ℕ) → Stands g w (at_dot p (length (items g p))) i j → IsSpelt g w (items g p) i j
  whole_spelt p i j st = rw take-length at (dot_spelt p (length (items g p)) i j st)

  -- what is spelt of a rule that is called stands
  pub spelt_stands : (n p d i j : ℕ) → IsCalled g w n i → IsRuleOf g n p → d ≤ length (items g p) → IsSpelt g w (take d (items g p)) i j → Stands g w (at_dot p d) i j
  spelt_stands n p d i j called rule le (ps, (f, r)) = stood g w (at_dot p d) n i j (parts_yield ps) rule called r (le, ps, f, refl)

  pub spelt_ends : (n p i j : ℕ) → IsCalled g w n i → IsRuleOf g n p → IsSpelt g w (items g p) i j → Stands g w (at_dot p (length (items g p))) i j
  spelt_ends n p i j called rule sp =
      let sp' : IsSpelt g w (take (length (items g p)) (items g p)) i j = rw take-length sp in
      spelt_stands n p (length (items g p)) i j called rule (omega arith) sp'

  read_to : (i : ℕ) (u : List ℕ) (j : ℕ) → Reads w i (u ++ []) j → Reads w i u j
  read_to i u j r = Reads-same w i (u ++ []) u j (append-nil u) r

  read_of : (i : ℕ) (u : List ℕ) (j : ℕ) → Reads w i u j → Reads w i (u ++ []) j
  read_of i u j r = Reads-same w i u (u ++ []) j (sym (append-nil u)) r

  module _ (has : ℕ → Place → ℕ → Type 0) (chart : IsExactChart g w has) where
    -- an item that is over the stretch spells it
    pub over_spelt : (item : GItem) (m j : ℕ) → ItemOver g w has item m j → IsSpelt g w (item ∷ []) m j
    over_spelt (Fixed v) m j o = (fixed v done, ((refl, tt), read_of m v j o))
    over_spelt (Term t s) m j o = (leaf (slice_range w m j) done, ((o.2, tt), read_of m (slice_range w m j) j (Reads-from_slice w m j o.0 o.1)))
    over_spelt (Skip t) m j o = (skip (slice_range w m j) done, ((o.2, tt), read_of m (slice_range w m j) j (Reads-from_slice w m j o.0 o.1)))
    over_spelt (Non n s) m j (q, rule, h) =
        let sp = whole_spelt q m j (chart.sound (at_dot q (length (items g q))) m j h) in
        (sub q sp.0 done, ((rule, sp.1.0, tt), read_of m (parts_yield sp.0) j sp.1.1))

    -- an item that spells a stretch after what stands is over it
    pub spelt_over : (p d i m j : ℕ) (item : GItem) → Stands g w (at_dot p d) i m → ItemAt g p d item → IsSpelt g w (item ∷ []) m j → ItemOver g w has item m j
    spelt_over p d i m j (Fixed v) st at (fixed u done, (f, r)) = Reads-same w m u v j f.0 (read_to m u j r)
    spelt_over p d i m j (Term t s) st at (leaf u done, (f, r)) =
        let r' = read_to m u j r in
        (omega (arith, Reads-is w m u j r'), Reads-within w m u j st.4 r', subst (λ z. IsTermWord g t z) (sym (Reads-slice w m u j r')) f.0)
    spelt_over p d i m j (Skip t) st at (skip u done, (f, r)) =
        let r' = read_to m u j r in
        (omega (arith, Reads-is w m u j r'), Reads-within w m u j st.4 r', subst (λ z. IsSkipWord g t z) (sym (Reads-slice w m u j r')) f.0)
    spelt_over p d i m j (Non n s) st at (sub q qs done, (f, r)) =
        let called : IsCalled g w n m = calls st.0 i p d n s m st.2 st.1 at st.3 st.4 st.5 in
        (q, f.0, chart.complete (at_dot q (length (items g q))) m j (spelt_ends n q m j called f.0 (qs, (f.1, read_to m (parts_yield qs) j r))))
    spelt_over p d i m j (Fixed v) st at (fixed u _, (f, r)) = absurd f.1
    spelt_over p d i m j (Term t s) st at (leaf u _, (f, r)) = absurd f.1
    spelt_over p d i m j (Skip t) st at (skip u _, (f, r)) = absurd f.1
    spelt_over p d i m j (Non n s) st at (sub q qs _, (f, r)) = absurd f.2
    spelt_over p d i m j _ st at (_, (f, r)) = absurd f

    module _ (f : Forest) (grown : IsGrown g w has f) where
      alt_of : (x : What) (i j : ℕ) (a : Alt) → IsAltBy g w has f x i j a → IsAlt g w f x i j a
      alt_of (Whole n) i j a h = record {
        rule_is = h.rule_is;
        of = h.of;
        spelt = whole_spelt a.rule i j (chart.sound (at_dot a.rule (length (items g a.rule))) i j h.ended);
        left_is = h.left_is;
        right_is = h.right_is;
      }
      alt_of (Front p zero) i j a h = h
      alt_of (Front p (suc d)) i j a (m, item, h) = (
        m,
        item,
        record {
          rule_is = h.rule_is;
          item_is = h.item_is;
          before = dot_spelt p d i m (chart.sound (at_dot p d) i m h.before);
          last = over_spelt item m j h.last;
          left_is = h.left_is;
          right_is = h.right_is;
        },
      )

      dotted : (r p d i j : ℕ) → IsRow f r (Front p d) i j → (zero < d) × (d ≤ length (items g p))
      dotted r p d i j row =
          let l = grown.labels r (Front p d) i j row in
          (l.0, (chart.sound (at_dot p d) i j l.1).5.0)

      wholes : (r n i j q : ℕ) → IsRow f r (Whole n) i j → IsRuleOf g n q → IsSpelt g w (items g q) i j → (a : Alt) × Contains (alts_of f r) a × WholeAlt g w f n i j q a
      wholes r n i j q row rule sp =
          let l = grown.labels r (Whole n) i j row in
          let st = chart.sound (at_dot l.0 (length (items g l.0))) i j l.2 in
          let e : st.0 ≡ n = one_non g st.0 n l.0 st.1 l.1 in
          let called : IsCalled g w n i = rw e at st.2 in
          let b = grown.wholes r n i j q row rule (chart.complete (at_dot q (length (items g q))) i j (spelt_ends n q i j called rule sp)) in
          (b.0, b.1, record { rule_is = b.2.rule_is; of = rule; spelt = sp; left_is = b.2.left_is; right_is = b.2.right_is })

      fronts : (r p d i j m : ℕ) (item : GItem) → IsRow f r (Front p (suc d)) i j → ItemAt g p d item → IsSpelt g w (take d (items g p)) i m → IsSpelt g w (item ∷ []) m j → (a : Alt) × Contains (alts_of f r) a × FrontAlt g w f p d i j m item a
      fronts r p d i j m item row at sp sl =
          let l = grown.labels r (Front p (suc d)) i j row in
          let st = chart.sound (at_dot p (suc d)) i j l.1 in
          let lt = get_lt (items g p) d item at in
          let before = spelt_stands st.0 p d i m st.2 st.1 (omega arith) sp in
          let b = grown.fronts r p d i j m item row at (chart.complete (at_dot p d) i m before) (spelt_over p d i m j item before at sl) in
          (b.0, b.1, record { rule_is = b.2.rule_is; item_is = at; before = sp; last = sl; left_is = b.2.left_is; right_is = b.2.right_is })

      pub grown_is_right : IsRight g w f
      grown_is_right = record {
        one_row = grown.one_row;
        below = grown.below;
        dotted = dotted;
        sound = λ r x i j a row c. alt_of x i j a (grown.sound r x i j a row c);
        wholes = wholes;
        fronts = fronts;
        once = grown.once;
      }
