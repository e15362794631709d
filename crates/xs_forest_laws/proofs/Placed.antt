-- When the row of a label is to be made, the rows of its children are there.
use Rattle.std.proofs.Common.{◌≡◌, ℕ, zero, suc, ◌<◌, List, [], length, Bool, Option, Some, None, refl, sym, ◌∙◌, arith, subst, inl, inr}
use Rattle.std.proofs.lemmas.Bool.{cases_lt}
use Rattle.xs_gram.specs.declared.parts.GItem.{GItem}
use Rattle.xs_gram.specs.declared.parts.GItem.TheVariants.{Fixed, Term, Non, Skip}
use Rattle.xs_gram.specs.declared.places.Place.{Place}
use Rattle.xs_gram.specs.Grammar.{Grammar, items, IsRuleOf, ItemAt}
use Rattle.xs_gram.specs.Derivations.{done}
use Rattle.xs_gram.specs.Places.{at_dot}
use Rattle.xs_forest_laws.specs.declared.span.SpanKey.{SpanKey}
use Rattle.xs_forest_laws.specs.declared.span.What.{What}
use Rattle.xs_forest_laws.specs.declared.span.What.TheVariants.{Whole, Front}
use Rattle.xs_forest_laws.specs.Forest.{Forest, key_at, IsRow, IsSpelt, FrontAt, ItemRow}
use Rattle.xs_forest_laws.specs.Grown.{IsExactChart, ItemOver, IsLabelBy}
use Rattle.xs_forest_laws.specs.Order.{IsRanked, IsTail, level, level_of, IsLess}
use Rattle.xs_forest_laws.specs.Placed.{key_in, IsOrdered, HasKeys}
use Rattle.xs_forest_laws.proofs.Grows.{dot_spelt, over_spelt}
use Rattle.xs_forest_laws.proofs.Below.{whole_below, front_below, last_below}

-- a place before all items stands where it began
pub empty_at : (g : Grammar) (w : List ℕ) (has : ℕ → Place → ℕ → Type 0) → IsExactChart g w has → (p i j : ℕ) → has j (at_dot p 0) i → i ≡ j
empty_at g w has chart p i j h = go (dot_spelt g w p 0 i j (chart.sound (at_dot p 0) i j h))
  where
    go : IsSpelt g w [] i j → i ≡ j
    go (done, (f, r)) = r
    go (_, (f, r)) = absurd f

module _ (g : Grammar) (w : List ℕ) (has : ℕ → Place → ℕ → Type 0) (chart : IsExactChart g w has) (rank : ℕ → ℕ) (tail : ℕ → ℕ → Bool) (ranked : IsRanked g rank) (is_tail : IsTail g tail) where
  abbrev lev : SpanKey → List ℕ
  lev = level_of g rank tail

  module _ (ks : List SpanKey) (ordered : IsOrdered g has lev ks) (f : Forest) (made : HasKeys f ks) (more : length f < length ks) (x : What) (i j : ℕ) (next : key_in ks (length f) ≡ key_at x i j) where
    -- a label of a lower level has a row
    pub there : (y : What) (k l : ℕ) → IsLabelBy g has y k l → IsLess (level g rank tail y k l) (level g rank tail x i j) → (r : ℕ) × IsRow f r y k l
    there y k l h less =
        let s = ordered.all y k l h in
        elim (cases_lt s.0 (length f)) [
          | inl lt ↦ (s.0, (lt, made.keys s.0 lt ∙ s.2))
          | inr ge ↦
              let less' : IsLess (lev (key_in ks s.0)) (lev (key_in ks (length f))) = subst (λ z. IsLess (lev z) (lev (key_in ks (length f)))) (sym s.2) (subst (λ z. IsLess (level g rank tail y k l) (lev z)) (sym next) less) in
              absurd (ordered.rises (length f) s.0 ge s.1 less')
        ]

    front_there : (p d k l : ℕ) → has l (at_dot p d) k → IsLess (level g rank tail (Front p d) k l) (level g rank tail x i j) → (o : Option ℕ) × FrontAt f p d k l o
    front_there p zero k l h less = (None, (refl, empty_at g w has chart p k l h))
    front_there p (suc d) k l h less =
        let r = there (Front p (suc d)) k l (omega arith, h) less in
        (Some r.0, (r.0, refl, r.1))

    -- the last front of each rule of a whole
    pub whole_there : (n q : ℕ) → x ≡ Whole n → IsRuleOf g n q → has j (at_dot q (length (items g q))) i → (o : Option ℕ) × FrontAt f q (length (items g q)) i j o
    whole_there n q e rule h =
        front_there q (length (items g q)) i j h (subst (λ z. IsLess (level g rank tail (Front q (length (items g q))) i j) (level g rank tail z i j)) (sym e) (whole_below g w rank tail is_tail n q i j rule))

    -- the front before the last item of a front, and the last item's row
    pub left_there : (p d m : ℕ) (item : GItem) → x ≡ Front p (suc d) → ItemAt g p d item → has m (at_dot p d) i → ItemOver g w has item m j → (o : Option ℕ) × FrontAt f p d i m o
    left_there p d m item e at h over =
        let st = chart.sound (at_dot p d) i m h in
        let less = front_below g w rank tail is_tail p d i m j item st.1.0 at (dot_spelt g w p d i m st) (over_spelt g w has chart item m j over) in
        front_there p d i m h (subst (λ z. IsLess (level g rank tail (Front p d) i m) (level g rank tail z i j)) (sym e) less)

    pub right_there : (p d m : ℕ) (item : GItem) → x ≡ Front p (suc d) → ItemAt g p d item → has m (at_dot p d) i → ItemOver g w has item m j → (o : Option ℕ) × ItemRow f item m j o
    right_there p d m (Fixed v) e at h over = (None, refl)
    right_there p d m (Term t s) e at h over = (None, refl)
    right_there p d m (Skip t) e at h over = (None, refl)
    right_there p d m (Non n s) e at h over =
        let st = chart.sound (at_dot p d) i m h in
        let less = last_below g w rank tail is_tail ranked st.0 p d i m j s n st.1 at (dot_spelt g w p d i m st) (over_spelt g w has chart (Non n s) m j over) in
        let r = there (Whole n) m j over (subst (λ z. IsLess (level g rank tail (Whole n) m j) (level g rank tail z i j)) (sym e) less) in
        (Some r.0, (r.0, refl, r.1))
