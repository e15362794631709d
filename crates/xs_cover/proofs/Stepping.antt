-- Steps that are added to a list of steps.
use Rattle.std.proofs.Common.{◌≡◌, ◌≢◌, ◌⊎◌, inl, inr, ℕ, ◌+◌, ◌-◌, ◌<◌, ◌≤◌, List, [], ◌∷◌, ◌++◌, length, length-append, refl, sym, subst, ◌∙◌, ap, arith, set, replicate}
use Rattle.std.proofs.lemmas.Bool.{cases_lt}
use Rattle.std.proofs.lemmas.List.{get_or_append_left, length-replicate}
use Rattle.std.proofs.Math.ListN.{length-set}
use Rattle.std.proofs.Math.Seq.{get_or-append_seam}
use Rattle.xs_gram.specs.declared.parts.GItem.{GItem}
use Rattle.xs_gram.specs.declared.parts.GItem.TheVariants.{Non}
use Rattle.xs_gram.specs.Grammar.{Grammar, rule_of, items, ItemAt}
use Rattle.xs_gram.specs.Sound.{IsSound}
use Rattle.xs_cover.specs.declared.contexts.Step.{Step}
use Rattle.xs_cover.specs.declared.contexts.Passing.{Passing}
use Rattle.xs_cover.specs.declared.prices.Prices.{Prices}
use Rattle.xs_cover.specs.Sizes.{capped}
use Rattle.xs_cover.specs.Costs.{rule_cost}
use Rattle.xs_cover.specs.Prices.{costs_of}
use Rattle.xs_cover.specs.Steps.{no_step, step_at, rest_cost, IsStep, AreSteps, IsStepTo, HaveSteps, HasGrown, IsPassing, IsPassedItem, IsPassed}
use Rattle.xs_cover.specs.Tables.{at}
use Rattle.xs_cover.proofs.Counting.{non_found, at_replicate, at_replicate_low}
use Rattle.xs_cover.proofs.Ways.{at_set}

step_on : (a more : List Step) (k : ℕ) → k < length a → step_at (a ++ more) k ≡ step_at a k
step_on a more k h = get_or_append_left a more no_step k h

is_step_on : (g h : Grammar) (p : Prices) (a more : List Step) (i : ℕ) (s : Step) → i ≤ length a → IsStep g h p a i s → IsStep g h p (a ++ more) i s
is_step_on g h p a more i s low step =
    let same : step_at (a ++ more) s.parent ≡ step_at a s.parent = step_on a more s.parent (omega (arith, low, step.below)) in
    record {
      below = step.below;
      there = step.there;
      of = step.of ∙ ap (λ (t : Step). t.non) (sym same);
      found = step.found;
      costs = step.costs ∙ ap (λ (t : Step). capped (t.cost + rest_cost g h p s.rule s.non)) (sym same);
    }

last_step : (a : List Step) (s : Step) → step_at (a ++ s ∷ []) (length a) ≡ s
last_step a s = get_or-append_seam a s [] no_step

are_more : (g h : Grammar) (p : Prices) (a : List Step) (s : Step) → AreSteps g h p a → IsStep g h p a (length a) s → AreSteps g h p (a ++ s ∷ [])
are_more g h p a s known step = record {
  some = omega (arith, known.some, length-append a (s ∷ []));
  first = ap (λ (t : Step). t.non) (step_on a (s ∷ []) 0 known.some) ∙ known.first;
  nothing = ap (λ (t : Step). t.cost) (step_on a (s ∷ []) 0 known.some) ∙ known.nothing;
  others = λ i some below. elim (cases_lt i (length a)) [
    | inl earlier ↦ subst (λ t. IsStep g h p (a ++ s ∷ []) i t) (sym (step_on a (s ∷ []) i earlier)) (is_step_on g h p a (s ∷ []) i (step_at a i) (omega (arith, earlier)) (known.others i some earlier))
    | inr later ↦
        let here : length a ≡ i = omega (arith, later, below, length-append a (s ∷ [])) in
        let last : IsStep g h p (a ++ s ∷ []) (length a) (step_at (a ++ s ∷ []) (length a)) = subst (λ t. IsStep g h p (a ++ s ∷ []) (length a) t) (sym (last_step a s)) (is_step_on g h p a (s ∷ []) (length a) s (omega arith) step) in
        subst (λ k. IsStep g h p (a ++ s ∷ []) k (step_at (a ++ s ∷ []) k)) here last
  ];
}

-- a step to less than what is known
pub have_step : (g h : Grammar) (p : Prices) (arounds places : List ℕ) (steps : List Step) (s : Step) → HaveSteps g h p arounds places steps → s.non < g.nons → s.cost ≤ 1000000000 → IsStep g h p steps (length steps) s → s.cost < at arounds s.non → HaveSteps g h p (set arounds s.non s.cost) (set places s.non (length steps)) (steps ++ s ∷ [])
have_step g h p arounds places steps s have there low step less = record {
  arounds_counted = length-set arounds s.non s.cost ∙ have.arounds_counted;
  places_counted = length-set places s.non (length steps) ∙ have.places_counted;
  start = start (at_set arounds s.non g.start s.cost in_arounds);
  low = λ n. lows n (at_set arounds s.non n s.cost in_arounds);
  are = are_more g h p steps s have.are step;
  reached = λ n in_g near. reached n in_g near (at_set arounds s.non n s.cost in_arounds) (at_set places s.non n (length steps) in_places);
}
  where
    in_arounds : s.non < length arounds
    in_arounds = omega (arith, there, have.arounds_counted)

    in_places : s.non < length places
    in_places = omega (arith, there, have.places_counted)

    start : ((g.start ≡ s.non) × (at (set arounds s.non s.cost) g.start ≡ s.cost)) ⊎ ((g.start ≢ s.non) × (at (set arounds s.non s.cost) g.start ≡ at arounds g.start)) → at (set arounds s.non s.cost) g.start ≡ 0
    start (inl here) = absurd (omega (arith, less, have.start, ap (λ n. at arounds n) here.0))
    start (inr other) = other.1 ∙ have.start

    lows : (n : ℕ) → ((n ≡ s.non) × (at (set arounds s.non s.cost) n ≡ s.cost)) ⊎ ((n ≢ s.non) × (at (set arounds s.non s.cost) n ≡ at arounds n)) → at (set arounds s.non s.cost) n ≤ 1000000001
    lows n (inl here) = omega (arith, here.1, low)
    lows n (inr other) = omega (arith, other.1, have.low n)

    newest : IsStepTo (steps ++ s ∷ []) s.non s.cost (length steps)
    newest = record {
      there = omega (arith, length-append steps (s ∷ []));
      to = ap (λ (t : Step). t.non) (last_step steps s);
      costs = ap (λ (t : Step). t.cost) (last_step steps s);
    }

    to_on : (non cost place : ℕ) → IsStepTo steps non cost place → IsStepTo (steps ++ s ∷ []) non cost place
    to_on non cost place to =
        let same = step_on steps (s ∷ []) place to.there in
        record {
          there = omega (arith, to.there, length-append steps (s ∷ []));
          to = ap (λ (t : Step). t.non) same ∙ to.to;
          costs = ap (λ (t : Step). t.cost) same ∙ to.costs;
        }

    moved : (non cost place n c k : ℕ) → non ≡ n → cost ≡ c → place ≡ k → IsStepTo (steps ++ s ∷ []) non cost place → IsStepTo (steps ++ s ∷ []) n c k
    moved non cost place n c k a b e to = subst (λ x. IsStepTo (steps ++ s ∷ []) n c x) e (subst (λ x. IsStepTo (steps ++ s ∷ []) n x place) b (subst (λ x. IsStepTo (steps ++ s ∷ []) x cost place) a to))

    reached : (n : ℕ) → n < g.nons → at (set arounds s.non s.cost) n ≤ 1000000000 → ((n ≡ s.non) × (at (set arounds s.non s.cost) n ≡ s.cost)) ⊎ ((n ≢ s.non) × (at (set arounds s.non s.cost) n ≡ at arounds n)) → ((n ≡ s.non) × (at (set places s.non (length steps)) n ≡ length steps)) ⊎ ((n ≢ s.non) × (at (set places s.non (length steps)) n ≡ at places n)) → IsStepTo (steps ++ s ∷ []) n (at (set arounds s.non s.cost) n) (at (set places s.non (length steps)) n)
    reached n in_g near (inl here) (inl same) = moved s.non s.cost (length steps) n (at (set arounds s.non s.cost) n) (at (set places s.non (length steps)) n) (sym here.0) (sym here.1) (sym same.1) newest
    reached n in_g near (inl here) (inr apart) = absurd (apart.0 here.0)
    reached n in_g near (inr apart) (inl same) = absurd (apart.0 same.0)
    reached n in_g near (inr other) (inr apart) = moved n (at arounds n) (at places n) n (at (set arounds s.non s.cost) n) (at (set places s.non (length steps)) n) refl (sym other.1) (sym apart.1) (to_on n (at arounds n) (at places n) (have.reached n in_g (omega (arith, other.1, near))))

-- nothing stands around the start
pub have_first : (g h : Grammar) (p : Prices) (arounds places : List ℕ) (steps : List Step) (s : Step) → IsSound g → arounds ≡ replicate g.nons 1000000001 → places ≡ replicate g.nons 0 → steps ≡ s ∷ [] → s.non ≡ g.start → s.cost ≡ 0 → HaveSteps g h p (set arounds g.start 0) places steps
have_first g h p arounds places steps s sound far none one first nothing = record {
  arounds_counted = length-set arounds g.start 0 ∙ long;
  places_counted = ap length none ∙ length-replicate {A = ℕ} g.nons 0;
  start = start (at_set arounds g.start g.start 0 in_arounds);
  low = λ n. low n (at_set arounds g.start n 0 in_arounds);
  are = record {
    some = omega (arith, ap length one);
    first = ap (λ l. (step_at l 0).non) one ∙ first;
    nothing = ap (λ l. (step_at l 0).cost) one ∙ nothing;
    others = λ i some below. absurd (omega (arith, some, below, ap length one));
  };
  reached = λ n in_g near. reached n in_g near (at_set arounds g.start n 0 in_arounds);
}
  where
    long : length arounds ≡ g.nons
    long = ap length far ∙ length-replicate {A = ℕ} g.nons 1000000001

    in_arounds : g.start < length arounds
    in_arounds = omega (arith, sound.built.range.start, ap length far, length-replicate {A = ℕ} g.nons 1000000001)

    start : ((g.start ≡ g.start) × (at (set arounds g.start 0) g.start ≡ 0)) ⊎ ((g.start ≢ g.start) × (at (set arounds g.start 0) g.start ≡ at arounds g.start)) → at (set arounds g.start 0) g.start ≡ 0
    start (inl here) = here.1
    start (inr other) = absurd (other.0 refl)

    low : (n : ℕ) → ((n ≡ g.start) × (at (set arounds g.start 0) n ≡ 0)) ⊎ ((n ≢ g.start) × (at (set arounds g.start 0) n ≡ at arounds n)) → at (set arounds g.start 0) n ≤ 1000000001
    low n (inl here) = omega (arith, here.1)
    low n (inr other) = omega (arith, other.1, ap (λ l. at l n) far, at_replicate_low g.nons 1000000001 n)

    step_non : List Step → ℕ → ℕ
    step_non l k = (step_at l k).non

    step_cost : List Step → ℕ → ℕ
    step_cost l k = (step_at l k).cost

    reached : (n : ℕ) → n < g.nons → at (set arounds g.start 0) n ≤ 1000000000 → ((n ≡ g.start) × (at (set arounds g.start 0) n ≡ 0)) ⊎ ((n ≢ g.start) × (at (set arounds g.start 0) n ≡ at arounds n)) → IsStepTo steps n (at (set arounds g.start 0) n) (at places n)
    reached n in_g near (inl here) =
        let place : at places n ≡ 0 = ap (λ l. at l n) none ∙ at_replicate g.nons 0 n in_g in
        record {
          there = omega (arith, place, ap length one);
          to = ap (step_non steps) place ∙ ap (λ l. (step_at l 0).non) one ∙ first ∙ sym here.0;
          costs = ap (step_cost steps) place ∙ ap (λ l. (step_at l 0).cost) one ∙ nothing ∙ sym here.1;
        }
    reached n in_g near (inr other) = absurd (omega (arith, near, other.1, ap (λ l. at l n) far, at_replicate g.nons 1000000001 n in_g))

pub passing_on : (g h : Grammar) (p : Prices) (a b : List Step) (f : Passing) → HasGrown a b → IsPassing g h p a f → IsPassing g h p b f
passing_on g h p a b f (more, e) passing =
    let same : step_at b f.parent ≡ step_at a f.parent = ap (λ l. step_at l f.parent) e ∙ step_on a more f.parent passing.there in
    record {
      there = omega (arith, passing.there, ap length e, length-append a more);
      rule_there = passing.rule_there;
      of = passing.of ∙ ap (λ (t : Step). t.non) (sym same);
      around_is = passing.around_is ∙ ap (λ (t : Step). t.cost) (sym same);
      cost_is = passing.cost_is;
    }

-- the step into an item of the rule
pub step_into : (g h : Grammar) (p : Prices) (steps : List Step) (f : Passing) (n non slot cost : ℕ) (s : Step) → IsSound g → IsPassing g h p steps f → ItemAt g f.rule n (Non non slot) → s ≡ record { non = non; rule = f.rule; slot = slot; parent = f.parent; cost = cost } → cost ≡ capped (f.around + (f.cost - at p.nons.items non)) → IsStep g h p steps (length steps) s
step_into g h p steps f n non slot cost s sound passing item is costs = subst (λ t. IsStep g h p steps (length steps) t) (sym is) (record {
  below = passing.there;
  there = passing.rule_there;
  of = passing.of;
  found = non_found (items g f.rule) n non slot (sound.built.slots f.rule) item;
  costs = costs ∙ ap (λ a. capped (a + (f.cost - at p.nons.items non))) passing.around_is ∙ ap (λ r. capped ((step_at steps f.parent).cost + (r - at p.nons.items non))) passing.cost_is;
})

-- a rule whose nonterminal is reached
pub passing_of : (g h : Grammar) (p : Prices) (arounds places : List ℕ) (steps : List Step) (f : Passing) → HaveSteps g h p arounds places steps → IsSound g → f.rule < length g.rules → f.around ≡ at arounds (rule_of g f.rule).non → f.around ≤ 1000000000 → f.parent ≡ at places (rule_of g f.rule).non → f.cost ≡ capped (rule_cost g h (costs_of p) f.rule) → IsPassing g h p steps f
passing_of g h p arounds places steps f have sound there around near parent cost =
    let to = have.reached (rule_of g f.rule).non (sound.built.range.rules f.rule there) (omega (arith, near, around)) in
    record {
      there = omega (arith, to.there, parent);
      rule_there = there;
      of = sym to.to ∙ ap (λ k. (step_at steps k).non) (sym parent);
      around_is = around ∙ sym to.costs ∙ ap (λ k. (step_at steps k).cost) (sym parent);
      cost_is = cost;
    }

-- all its items are passed
pub passed_of : (g h : Grammar) (p : Prices) (arounds : List ℕ) (f : Passing) → f.around ≡ at arounds (rule_of g f.rule).non → f.cost ≡ capped (rule_cost g h (costs_of p) f.rule) → ((n : ℕ) (item : GItem) → ItemAt g f.rule n item → IsPassedItem p arounds f item) → IsPassed g h p arounds f.rule
passed_of g h p arounds f around cost passed = λ near n m s item.
    subst (λ a. at arounds m ≤ capped (a + (capped (rule_cost g h (costs_of p) f.rule) - at p.nons.items m))) around (subst (λ r. at arounds m ≤ capped (f.around + (r - at p.nons.items m))) cost (passed n (Non m s) item))
