-- A set that is repeated: where the last two sets of a chart are the same, and by the next symbol the same is due as by the last one, the next set is the same again.
use Rattle.std.proofs.Common.{◌≡◌, ℕ, suc, ◌<◌, ◌≤◌, List, [], ◌∷◌, ◌++◌, length, refl, sym, subst, arith, ◌↔◌, inl, inr}
use Rattle.std.specs.Prelude.{Contains}
use Rattle.xs_chart.specs.declared.item.Item.{Item}
use Rattle.xs_chart.specs.Different.{AreDifferent}
use Rattle.xs_gram.specs.declared.places.Place.{Place}
use Rattle.xs_gram.specs.Grammar.{Grammar}
use Rattle.xs_gram.specs.Sound.{IsBuilt}
use Rattle.xs_gram.specs.Chart.{Stands}
use Rattle.xs_gram.specs.Places.{at_dot, at_inside}
use Rattle.xs_chart_laws.specs.Closed.{IsClosed}
use Rattle.xs_chart_laws.specs.Reading.{Reads}
use Rattle.xs_chart_laws.specs.Steps.{next_of, Arrives, IsSettled}
use Rattle.xs_chart_laws.specs.Charts.{IsNumber, set_at, HasPlace, ItemStands, IsChartOf}
use Rattle.xs_chart_laws.specs.Next.{IsDue}
use Rattle.xs_chart_laws.proofs.Numbers.{one_place}
use Rattle.xs_chart_laws.proofs.Standing.{standing_is_closed}
use Rattle.xs_chart_laws.proofs.Completeness.{complete}
use Rattle.xs_chart_laws.proofs.Charts.{chart_all_stand, chart_has_all}
use Rattle.xs_chart_laws.proofs.Steps.{passed_stands, called_stands, completed_stands, arrived_stands}
use Rattle.xs_chart_laws.proofs.Settling.{has_place_more}
use Rattle.xs_chart_laws.proofs.Longer.{stands_longer}
use Rattle.xs_chart_laws.proofs.Nexts.{due_stands, chart_more}

module _ (g : Grammar) (w : List ℕ) (s : ℕ) (sets : List (List Item)) (chart : IsChartOf g w sets) (built : IsBuilt g) (n : ℕ) (long : length w ≡ suc n) (same : set_at sets (length w) ≡ set_at sets n) (due : (d : Place) (i : ℕ) → IsDue g w sets (length w) d i ↔ IsDue g (w ++ s ∷ []) sets (suc (length w)) d i) where
  -- no item of the last set begins there, since it stands in the set before it too
  begun_before : (c : Place) (i : ℕ) → Stands g w c i (length w) → i < length w
  begun_before c i st =
      let h = chart_has_all g w sets chart c i (length w) st in
      let was = chart_all_stand g w sets chart c i n (h.0, h.1, subst (λ (l : List Item). Contains l (record { state = h.0; origin = i })) same h.2) in
      let le = was.3 in
      omega (arith, long, le)

  -- it stands, and where it stands in the last set, it stands in the next one too
  abbrev StandsAgain : ℕ → Place → ℕ → Type 0
  StandsAgain j c i = Stands g w c i j × (j ≡ length w → Stands g (w ++ s ∷ []) c i (suc (length w)))

  arrives_again : (c d : Place) (i j : ℕ) → Stands g w c i j → Arrives g w j c (length w) d → Stands g (w ++ s ∷ []) d i (suc (length w))
  arrives_again c d i j st arr = due_stands g w s sets chart built d i (suc (length w)) ((due d i).0 (j, c, chart_has_all g w sets chart c i j st, arr))

  closed_again : IsClosed g w StandsAgain
  closed_again = record {
    starts = λ p rule. (now.starts p rule, λ e. absurd (omega (arith, e, long)));
    predicts = λ p k i j m t q h at rule. let st = now.predicts p k i j m t q h.0 at rule in (st, λ e. absurd (let lt = begun_before (at_dot q 0) (length w) (subst (λ l. Stands g w (at_dot q 0) l l) e st) in omega (arith, lt)));
    passes = λ p k i j item a h at lex null. (now.passes p k i j item a h.0 at lex null, λ e. next.passes p k i (suc (length w)) item a (h.1 e) at lex null);
    enters = λ p k i j m x item a h at lex e f c. (now.enters p k i j m x item a h.0 at lex e f c, λ is. arrives_again (at_dot p k) (at_inside p k m) i j h.0 (inl (sym is, x, e, a, (item, at, lex), m, (f, c), refl)));
    steps = λ p k i j b m x item a h at lex e f c. (now.steps p k i j b m x item a h.0 at lex e f c, λ is. arrives_again (at_inside p k b) (at_inside p k m) i j h.0 (inl (sym is, x, e, a, (item, at, lex), m, (f, c), refl)));
    ends = λ p k i j m item a h at lex last. (now.ends p k i j m item a h.0 at lex last, λ e. next.ends p k i (suc (length w)) m item a (h.1 e) at lex last);
    reads = λ p k i j l f h at r. (now.reads p k i j l f h.0 at r, λ is. arrives_again (at_dot p k) (at_dot p (suc k)) i j h.0 (inr (f, refl, at, subst (λ m. Reads w j f m) is r, refl)));
    completes = λ p k i j l m t q h at rule whole. (now.completes p k i j l m t q h.0 at rule whole.0, λ e. next.completes p k i j (suc (length w)) m t q (stands_longer g w (s ∷ []) (at_dot p k) i j h.0) at rule (whole.1 e));
  }
    where
      now : IsClosed g w (λ j c i. Stands g w c i j)
      now = standing_is_closed g w built

      next : IsClosed g (w ++ s ∷ []) (λ j c i. Stands g (w ++ s ∷ []) c i j)
      next = standing_is_closed g (w ++ s ∷ []) built

  stands_again : (c : Place) (i : ℕ) → Stands g w c i (length w) → Stands g (w ++ s ∷ []) c i (suc (length w))
  stands_again c i st = (complete g w StandsAgain closed_again built c i (length w) st).1 refl

  -- the sets with the last one once more are the chart of the longer document
  pub chart_again : (more : List (List Item)) → length more ≡ suc (suc (length w)) → ((j : ℕ) → j ≤ length w → set_at more j ≡ set_at sets j) → set_at more (suc (length w)) ≡ set_at sets (length w) → IsChartOf g (w ++ s ∷ []) more
  chart_again more counted before last = chart_more g w s sets chart built more counted before stand (subst (λ (l : List Item). AreDifferent l) (sym last) (chart.different (length w))) there settled
    where
      in_last : (c : Place) (i : ℕ) → Stands g w c i (length w) → HasPlace g more (suc (length w)) c i
      in_last c i st = let h = chart_has_all g w sets chart c i (length w) st in (h.0, h.1, subst (λ (l : List Item). Contains l (record { state = h.0; origin = i })) (sym last) h.2)

      stood : (item : Item) → Contains (set_at more (suc (length w))) item → ItemStands g w item (length w)
      stood item h = (chart.stand (length w) item).0 (subst (λ (l : List Item). Contains l item) last h)

      stand : (item : Item) → Contains (set_at more (suc (length w))) item → ItemStands g (w ++ s ∷ []) item (suc (length w))
      stand item h = let st = stood item h in (st.0, st.1, stands_again st.0 item.origin st.2)

      there : (d : Place) (i : ℕ) → IsDue g (w ++ s ∷ []) sets (suc (length w)) d i → HasPlace g more (suc (length w)) d i
      there d i h = let was = (due d i).1 h in in_last d i (arrived_stands g w built was.1 i was.0 (length w) d (chart_all_stand g w sets chart was.1 i was.0 was.2) was.3)

      settled : (item : Item) (c : Place) → Contains (set_at more (suc (length w))) item → IsNumber g item.state c → IsSettled g (HasPlace g more) (suc (length w)) c item.origin
      settled item c h num =
          let is = stood item h in
          let st : Stands g w c item.origin (length w) = subst (λ d. Stands g w d item.origin (length w)) (one_place g item.state is.0 c is.1 num) is.2 in
          record {
            passed = λ p. in_last (next_of c) item.origin (passed_stands g w built c item.origin (length w) st p);
            called = λ non q b rule. absurd (let lt = begun_before (at_dot q 0) (length w) (called_stands g w built c item.origin (length w) non q st b rule) in omega (arith, lt));
            completed = λ non d o e lt has b. in_last (next_of d) o (completed_stands g w built c item.origin (length w) non d o st e (chart_all_stand g w sets chart d o item.origin (has_place_more g more sets item.origin d o (λ x. subst (λ (l : List Item). Contains l x) (before item.origin (omega (arith, lt)))) has)) b);
          }
