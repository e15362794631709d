-- Items that are settled: by the kind of their place, while sets grow, and in the end as a chart.
use Rattle.std.proofs.Common.{◌≡◌, ℕ, suc, List, length, refl, subst, arith, inl, inr, Some, None}
use Rattle.std.specs.declared.option.Option.{Option}
use Rattle.std.specs.Prelude.{slice_get, Contains}
use Rattle.xs_chart.specs.declared.item.Item.{Item}
use Rattle.xs_chart.specs.Different.{AreDifferent}
use Rattle.xs_regex.specs.declared.position.Position.{Position}
use Rattle.xs_gram.specs.declared.parts.GItem.{GItem}
use Rattle.xs_gram.specs.declared.parts.GItem.TheVariants.{Fixed, Non}
use Rattle.xs_gram.specs.declared.places.Place.{Place}
use Rattle.xs_gram.specs.Grammar.{Grammar, items, IsRuleOf, ItemAt}
use Rattle.xs_gram.specs.Sound.{IsBuilt}
use Rattle.xs_gram.specs.Chart.{IsAutomatonOf}
use Rattle.xs_gram.specs.Places.{at_dot, at_inside}
use Rattle.xs_gram.proofs.Numbers.{place_once}
use Rattle.xs_chart_laws.specs.Closed.{IsClosedBy}
use Rattle.xs_chart_laws.specs.Steps.{IsBefore, IsAtEnd, HasAutomaton, Arrives, IsSettled}
use Rattle.xs_chart_laws.specs.Charts.{IsNumber, set_at, HasPlace, AllItemsStand, IsChartOf}
use Rattle.xs_chart_laws.proofs.Words.{get_lt}
use Rattle.xs_chart_laws.proofs.Spelling.{one_automaton}
use Rattle.xs_chart_laws.proofs.Recognising.{closed_by}
use Rattle.xs_chart_laws.proofs.Charts.{chart_stands, closed_is_chart}
use Rattle.xs_class.proofs.Lists.{some_same}

pub same_non : (m n s t : ℕ) → Non m s ≡ Non n t → m ≡ n
same_non m n s t e = cc

pub same_word : (f h : List ℕ) → Fixed f ≡ Fixed h → f ≡ h
same_word f h e = cc

pub none_is_some : (o : Option ℕ) (k : ℕ) → o ≡ None → o ≡ Some k → ⊥
none_is_some o k a b = cc

pub same_some : (o : Option ℕ) (k m : ℕ) → o ≡ Some k → o ≡ Some m → k ≡ m
same_some o k m a b = cc

no_automaton_fixed : (g : Grammar) (item : GItem) (a : Position) (f : List ℕ) → item ≡ Fixed f → IsAutomatonOf g item a → ⊥
no_automaton_fixed g item a f e lex = subst (λ i. IsAutomatonOf g i a) e lex

no_automaton_non : (g : Grammar) (item : GItem) (a : Position) (n s : ℕ) → item ≡ Non n s → IsAutomatonOf g item a → ⊥
no_automaton_non g item a n s e lex = subst (λ i. IsAutomatonOf g i a) e lex

fixed_is_non : (f : List ℕ) (n s : ℕ) → Fixed f ≡ Non n s → ⊥
fixed_is_non f n s e = cc

pub one_of_place : (g : Grammar) (c : Place) (x y : GItem) → ItemAt g c.rule c.dot x → ItemAt g c.rule c.dot y → x ≡ y
one_of_place g c x y a b = some_same (slice_get (items g c.rule) c.dot) x y a b

pub not_at_end : (g : Grammar) (c : Place) (item : GItem) (non : ℕ) → ItemAt g c.rule c.dot item → IsAtEnd g c non → ⊥
not_at_end g c item non at end = let lt = get_lt (items g c.rule) c.dot item at in omega (arith, end.1)

-- a place has one automaton
pub automaton_once : (g : Grammar) (c : Place) (a b : Position) → HasAutomaton g c a → HasAutomaton g c b → a ≡ b
automaton_once g c a b h k = one_automaton g h.0 k.0 a b (one_of_place g c h.0 k.0 h.1 k.1) h.2 k.2

pub automaton_not_non : (g : Grammar) (c : Place) (a : Position) (non : ℕ) → HasAutomaton g c a → IsBefore g c non → ⊥
automaton_not_non g c a non h before = no_automaton_non g h.0 a non before.1 (one_of_place g c h.0 (Non non before.1) h.1 before.2) h.2

pub automaton_not_fixed : (g : Grammar) (c : Place) (a : Position) (f : List ℕ) → HasAutomaton g c a → ItemAt g c.rule c.dot (Fixed f) → ⊥
automaton_not_fixed g c a f h at = no_automaton_fixed g h.0 a f (one_of_place g c h.0 (Fixed f) h.1 at) h.2

-- sets with the rules of the start, of which each item is settled and what arrives is there, are closed by what a recogniser does
pub settled_is_closed : (g : Grammar) (w : List ℕ) (has : ℕ → Place → ℕ → Type 0) → ((p : ℕ) → IsRuleOf g g.start p → has 0 (at_dot p 0) 0) → ((j : ℕ) (c : Place) (i : ℕ) → has j c i → IsSettled g has j c i) → ((j k : ℕ) (c d : Place) (i : ℕ) → has j c i → Arrives g w j c k d → has k d i) → IsClosedBy g w has
settled_is_closed g w has starts all arrived = record {
  starts = starts;
  predicts = λ p n i j m s q h at rule. (all j (at_dot p n) i h).called m q (refl, s, at) rule;
  passes = λ p n i j item a h at lex null. (all j (at_dot p n) i h).passed (inr (a, (item, at, lex), inl (refl, null)));
  passes_non = λ p n i j m s h at null. (all j (at_dot p n) i h).passed (inl (m, (refl, s, at), null));
  enters = λ p n i j k x item a h at lex e f c. arrived j (suc j) (at_dot p n) (at_inside p n k) i h (inl (refl, x, e, a, (item, at, lex), k, (f, c), refl));
  steps = λ p n i j k m x item a h at lex e f c. arrived j (suc j) (at_inside p n k) (at_inside p n m) i h (inl (refl, x, e, a, (item, at, lex), m, (f, c), refl));
  ends = λ p n i j k item a h at lex last. (all j (at_inside p n k) i h).passed (inr (a, (item, at, lex), inr (k, refl, last)));
  reads = λ p n i j k f h at r. arrived j k (at_dot p n) (at_dot p (suc n)) i h (inr (f, refl, at, r, refl));
  completes = λ p n i j k m s q lt h at rule whole. (all k (at_dot q (length (items g q))) j whole).completed m (at_dot p n) i (refl, refl, rule) lt h (refl, s, at);
}

-- sets with the rules of the start, of which each item stands and is settled and what arrives is there, are the chart
pub settled_is_chart : (g : Grammar) (w : List ℕ) (sets : List (List Item)) → IsBuilt g → length sets ≡ suc (length w) → AllItemsStand g w sets → ((j : ℕ) → AreDifferent (set_at sets j)) → ((p : ℕ) → IsRuleOf g g.start p → HasPlace g sets 0 (at_dot p 0) 0) → ((j : ℕ) (item : Item) (c : Place) → Contains (set_at sets j) item → IsNumber g item.state c → IsSettled g (HasPlace g sets) j c item.origin) → ((j k : ℕ) (c d : Place) (i : ℕ) → HasPlace g sets j c i → Arrives g w j c k d → HasPlace g sets k d i) → IsChartOf g w sets
settled_is_chart g w sets built counted stand different starts settled arrived =
    closed_is_chart g w sets built counted stand different (closed_by g w (HasPlace g sets) (chart_stands g w sets stand) by)
  where
    by : IsClosedBy g w (HasPlace g sets)
    by = settled_is_closed g w (HasPlace g sets) starts (λ j c i h. settled j (record { state = h.0; origin = i }) c h.2 h.1) arrived

-- the item of a place that a set has, by any number of that place
pub place_contained : (g : Grammar) (sets : List (List Item)) (j k : ℕ) (c : Place) (i : ℕ) → IsNumber g k c → HasPlace g sets j c i → Contains (set_at sets j) (record { state = k; origin = i })
place_contained g sets j k c i num h = subst (λ n. Contains (set_at sets j) (record { state = n; origin = i })) (place_once g c h.0 k h.1 num) h.2

pub has_place_more : (g : Grammar) (sets more : List (List Item)) (j : ℕ) (c : Place) (i : ℕ) → ((item : Item) → Contains (set_at sets j) item → Contains (set_at more j) item) → HasPlace g sets j c i → HasPlace g more j c i
has_place_more g sets more j c i kept h = (h.0, h.1, kept (record { state = h.0; origin = i }) h.2)
