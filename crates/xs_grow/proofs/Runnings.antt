-- The positions that an automaton reaches, symbol by symbol, and the places where its words end.
use Rattle.std.proofs.Common.{◌≡◌, ◌⊎◌, ◌↔◌, ℕ, zero, suc, ◌+◌, ◌-◌, ◌<◌, ◌≤◌, Bool, true, false, List, [], ◌∷◌, ◌++◌, length, slice_get, Option, None, Some, refl, sym, ap, ◌∙◌, subst, arith, inl, inr, true≢false}
use Rattle.std.specs.Prelude.{Contains, IsTrue, IsSomeAnd, slice_range, MatchBool}
use Rattle.std.proofs.lemmas.Bool.{cases_eq, cases_lt}
use Rattle.std.proofs.lemmas.Option.{slice_get_within}
use Rattle.std.specs.Bool.{Decides}
use Rattle.xs_class.specs.Classes.{Has}
use Rattle.std.proofs.lemmas.List.{same_from_push}
use Rattle.std.proofs.lemmas.List.Elements.{Contains-append_left, Contains-push, Contains-push_cases}
use Rattle.xs_regex.specs.declared.position.Position.{Position}
use Rattle.xs_regex.specs.Automaton.{Accepts, HasAt, Leads, Runs, begins, goes}
use Rattle.xs_chart_laws.proofs.Words.{Reads-join, Reads-slice, Reads-from_slice, Reads-is, get_some}
use Rattle.xs_grow.specs.Lists.{HasAllOf}
use Rattle.xs_grow.specs.Running.{Enters, AcceptsTo}
use Rattle.xs_grow.proofs.ListLemmas.{none_contained, all_none, all_one, all_same, all_push}
use Rattle.xs_regex.proofs.Runs.{no_run}

-- a test of a list's elements
pub contained : (xs : List ℕ) (x : ℕ) (r : Bool) → Decides r (Contains xs x) → (b : Bool) → r ≡ b → MatchBool b (Contains xs x) (Contains xs x → ⊥)
contained xs x r d true e = d.0 e
contained xs x r d false e = λ h. absurd (true≢false (sym (d.1 h) ∙ e))

module _ (p : Position) (s : ℕ) where
  -- one position more was looked at
  pub enter_more : (old next next' among more : List ℕ) (x : ℕ) → more ≡ among ++ x ∷ [] → ((k : ℕ) → Contains next k ↔ (Contains old k ⊎ (Contains among k × HasAt p k s))) → (HasAt p x s × (next' ≡ next ++ x ∷ [])) ⊎ ((HasAt p x s → Contains next x) × (next' ≡ next)) → (k : ℕ) → Contains next' k ↔ (Contains old k ⊎ (Contains more k × HasAt p k s))
  enter_more old next next' among more x e before how k = (there how, back how)
    where
      more_of : Contains among k → Contains more k
      more_of c = subst (λ (z : List ℕ). Contains z k) (sym e) (Contains-append_left among (x ∷ []) k c)

      cases : Contains more k → Contains among k ⊎ (x ≡ k)
      cases c = Contains-push_cases among x k (subst (λ (z : List ℕ). Contains z k) e c)

      last : Contains more x
      last = subst (λ (z : List ℕ). Contains z x) (sym e) (Contains-push among x)

      keep : Contains old k ⊎ (Contains among k × HasAt p k s) → Contains old k ⊎ (Contains more k × HasAt p k s)
      keep (inl c) = inl c
      keep (inr c) = inr (more_of c.0, c.1)

      there : (HasAt p x s × (next' ≡ next ++ x ∷ [])) ⊎ ((HasAt p x s → Contains next x) × (next' ≡ next)) → Contains next' k → Contains old k ⊎ (Contains more k × HasAt p k s)
      there (inl h) c = elim (Contains-push_cases next x k (subst (λ (z : List ℕ). Contains z k) h.1 c)) [
        | inl i ↦ keep ((before k).0 i)
        | inr i ↦ inr (subst (λ (z : ℕ). Contains more z) i last, subst (λ (z : ℕ). HasAt p z s) i h.0)
      ]
      there (inr h) c = keep ((before k).0 (subst (λ (z : List ℕ). Contains z k) h.1 c))

      back : (HasAt p x s × (next' ≡ next ++ x ∷ [])) ⊎ ((HasAt p x s → Contains next x) × (next' ≡ next)) → Contains old k ⊎ (Contains more k × HasAt p k s) → Contains next' k
      back (inl h) (inl c) = subst (λ (z : List ℕ). Contains z k) (sym h.1) (Contains-append_left next (x ∷ []) k ((before k).1 (inl c)))
      back (inl h) (inr c) = subst (λ (z : List ℕ). Contains z k) (sym h.1) (elim (cases c.0) [
        | inl i ↦ Contains-append_left next (x ∷ []) k ((before k).1 (inr (i, c.1)))
        | inr i ↦ subst (λ (z : ℕ). Contains (next ++ x ∷ []) z) i (Contains-push next x)
      ])
      back (inr h) (inl c) = subst (λ (z : List ℕ). Contains z k) (sym h.1) ((before k).1 (inl c))
      back (inr h) (inr c) = subst (λ (z : List ℕ). Contains z k) (sym h.1) (elim (cases c.0) [
        | inl i ↦ (before k).1 (inr (i, c.1))
        | inr i ↦ subst (λ (z : ℕ). Contains next z) i (h.0 (subst (λ (z : ℕ). HasAt p z s) (sym i) c.1))
      ])

  pub has_at : (x : ℕ) (class : List (ℕ × ℕ)) → slice_get p.classes x ≡ Some class → Has class s → HasAt p x s
  has_at x class e h = subst (λ (o : Option (List (ℕ × ℕ))). IsSomeAnd o (λ c. Has c s)) (sym e) h

  pub at_has : (x : ℕ) (class : List (ℕ × ℕ)) → slice_get p.classes x ≡ Some class → HasAt p x s → Has class s
  at_has x class e h = subst (λ (o : Option (List (ℕ × ℕ))). IsSomeAnd o (λ c. Has c s)) e h

  -- the positions that follow one more of those that were reached
  pub follow_more : (at_start : Bool) (among more row next next' : List ℕ) (x : ℕ) → more ≡ among ++ x ∷ [] → slice_get p.follow x ≡ Some row → ((k : ℕ) → Contains next k ↔ Enters p at_start among s k) → ((k : ℕ) → Contains next' k ↔ (Contains next k ⊎ (Contains row k × HasAt p k s))) → (k : ℕ) → Contains next' k ↔ Enters p at_start more s k
  follow_more at_start among more row next next' x e is before now k = (λ c. there ((now k).0 c), back)
    where
      leads : Contains row k → Leads p x k
      leads c = subst (λ (o : Option (List ℕ)). IsSomeAnd o (λ r. Contains r k)) (sym is) c

      in_row : Leads p x k → Contains row k
      in_row l = subst (λ (o : Option (List ℕ)). IsSomeAnd o (λ r. Contains r k)) is l

      last : Contains more x
      last = subst (λ (z : List ℕ). Contains z x) (sym e) (Contains-push among x)

      keep : (j : ℕ) → Contains among j → Contains more j
      keep j c = subst (λ (z : List ℕ). Contains z j) (sym e) (Contains-append_left among (x ∷ []) j c)

      there : Contains next k ⊎ (Contains row k × HasAt p k s) → Enters p at_start more s k
      there (inl c) = let h = (before k).0 c in (elim h.0 [ inl f ↦ inl f | inr f ↦ inr (f.0, keep f.0 f.1, f.2) ], h.1)
      there (inr c) = (inr (x, last, leads c.0), c.1)

      back : Enters p at_start more s k → Contains next' k
      back (inl f, h) = (now k).1 (inl ((before k).1 (inl f, h)))
      back (inr (j, c, l), h) = elim (Contains-push_cases among x j (subst (λ (z : List ℕ). Contains z j) e c)) [
        | inl i ↦ (now k).1 (inl ((before k).1 (inr (j, i, l), h)))
        | inr i ↦ (now k).1 (inr (in_row (subst (λ (z : ℕ). Leads p z k) (sym i) l), h))
      ]

  pub entered_none : (at_start : Bool) (next : List ℕ) → ((k : ℕ) → Contains next k ↔ ((IsTrue at_start × Contains p.first k) × HasAt p k s)) → (k : ℕ) → Contains next k ↔ Enters p at_start [] s k
  entered_none at_start next h k = (λ c. let f = (h k).0 c in (inl f.0, f.1), back)
    where
      back : Enters p at_start [] s k → Contains next k
      back (inl f, i) = (h k).1 (f, i)
      back (inr (j, c, l), i) = absurd (none_contained j c)

-- the last step of a run
run_last : (p : Position) (w u : List ℕ) (s k : ℕ) → Runs p w k → w ≡ u ++ s ∷ [] → (((u ≡ []) × Contains p.first k) ⊎ ((j : ℕ) × Runs p u j × Leads p j k)) × HasAt p k s
run_last p _ u s k (begins x f h is) e =
    let b : u ++ s ∷ [] ≡ [] ++ x ∷ [] = sym e ∙ is in
    let both = same_from_push u [] s x b in
    (inl (both.0, f), subst (λ (z : ℕ). HasAt p k z) (sym both.1) h)
run_last p _ u s k (goes v j x run l h is) e =
    let b : u ++ s ∷ [] ≡ v ++ x ∷ [] = sym e ∙ is in
    let both = same_from_push u v s x b in
    (inr (j, subst (λ (z : List ℕ). Runs p z j) (sym both.0) run, l), subst (λ (z : ℕ). HasAt p k z) (sym both.1) h)

none_long : (w : List ℕ) → w ≡ [] → length w ≡ 0
none_long w e = ap length e

module _ (p : Position) (w : List ℕ) (from : ℕ) where
  pub slice_none : slice_range w from from ≡ []
  slice_none = Reads-slice w from [] from refl

  pub slice_more : (at s : ℕ) → from ≤ at → slice_get w at ≡ Some s → slice_range w from (suc at) ≡ slice_range w from at ++ s ∷ []
  slice_more at s le e =
      let lt = slice_get_within w at s e in
      Reads-slice w from (slice_range w from at ++ s ∷ []) (suc at) (Reads-join w from (slice_range w from at) (s ∷ []) at (suc at) (Reads-from_slice w from at le (omega arith)) (e, refl))

  slice_long : (at : ℕ) → from ≤ at → at ≤ length w → slice_range w from at ≡ [] → from ≡ at
  slice_long at le within e = let r = Reads-is w from (slice_range w from at) at (Reads-from_slice w from at le within) in omega (arith, r, none_long (slice_range w from at) e)

  -- what is reached by one symbol more
  pub reached_more : (at s : ℕ) (at_start : Bool) (reached next : List ℕ) → from ≤ at → slice_get w at ≡ Some s → (IsTrue at_start ↔ (at ≡ from)) → ((k : ℕ) → Contains reached k ↔ Runs p (slice_range w from at) k) → ((k : ℕ) → Contains next k ↔ Enters p at_start reached s k) → (k : ℕ) → Contains next k ↔ Runs p (slice_range w from (suc at)) k
  reached_more at s at_start reached next le e starts before now k = (λ c. there ((now k).0 c), λ r. (now k).1 (back (run_last p (slice_range w from (suc at)) (slice_range w from at) s k r whole)))
    where
      whole : slice_range w from (suc at) ≡ slice_range w from at ++ s ∷ []
      whole = slice_more at s le e

      there : Enters p at_start reached s k → Runs p (slice_range w from (suc at)) k
      there (inl (t, f), h) =
          let same : slice_range w from at ≡ [] = subst (λ z. slice_range w from z ≡ []) (sym (starts.0 t)) slice_none in
          begins s f h (whole ∙ ap (λ (z : List ℕ). z ++ s ∷ []) same)
      there (inr (j, c, l), h) = goes (slice_range w from at) j s ((before j).0 c) l h whole

      back : (((slice_range w from at ≡ []) × Contains p.first k) ⊎ ((j : ℕ) × Runs p (slice_range w from at) j × Leads p j k)) × HasAt p k s → Enters p at_start reached s k
      back (inl (z, f), h) = let lt = slice_get_within w at s e in (inl (starts.1 (sym (slice_long at le (omega arith) z)), f), h)
      back (inr (j, r, l), h) = (inr (j, (before j).1 r, l), h)

  -- where nothing is reached, nothing is later
  stuck : (at : ℕ) → from < at → ((k : ℕ) → Runs p (slice_range w from at) k → ⊥) → (n k : ℕ) → at + n ≤ length w → Runs p (slice_range w from (at + n)) k → ⊥
  stuck at lt none zero k le r = let e : at + 0 ≡ at = omega arith in none k (subst (λ z. Runs p (slice_range w from z) k) e r)
  stuck at lt none (suc n) k le r =
      let e : at + suc n ≡ suc (at + n) = omega arith in
      let got = get_some w (at + n) (omega arith) in
      let r' = subst (λ z. Runs p (slice_range w from z) k) e r in
      go got.0 (λ j r2. stuck at lt none n j (omega arith) r2) (run_last p (slice_range w from (suc (at + n))) (slice_range w from (at + n)) got.0 k r' (slice_more (at + n) got.0 (omega arith) got.1))
    where
      go : (s : ℕ) → ((j : ℕ) → Runs p (slice_range w from (at + n)) j → ⊥) → (((slice_range w from (at + n) ≡ []) × Contains p.first k) ⊎ ((j : ℕ) × Runs p (slice_range w from (at + n)) j × Leads p j k)) × HasAt p k s → ⊥
      go s earlier (inl (z, f), h) = let e = slice_long (at + n) (omega arith) (omega arith) z in absurd (omega arith)
      go s earlier (inr (j, r2, l), h) = earlier j r2

  pub ends_first : (ends : List ℕ) → (IsTrue p.nullable × (ends ≡ from ∷ [])) ⊎ ((IsTrue p.nullable → ⊥) × (ends ≡ [])) → HasAllOf (AcceptsTo p w from from) ends
  ends_first ends (inl (t, e)) = subst (λ z. HasAllOf (AcceptsTo p w from from) z) (sym e) (all_one (AcceptsTo p w from from) from (omega arith, omega arith, inl (slice_none, t)) (λ j h. omega (arith, h.0, h.1)))
  ends_first ends (inr (f, e)) = subst (λ z. HasAllOf (AcceptsTo p w from from) z) (sym e) (all_none (AcceptsTo p w from from) (λ j h. go j h))
    where
      go : (j : ℕ) → AcceptsTo p w from from j → ⊥
      go j (a, b, inl h) = f h.1
      go j (a, b, inr (k, r, l)) =
          let e : j ≡ from = omega (arith, a, b) in
          no_run p (slice_range w from j) k (subst (λ z. slice_range w from z ≡ []) (sym e) slice_none) r

  -- the word up to the next place is accepted exactly where a last position is reached
  accepted_at : (at : ℕ) (next : List ℕ) → from < at → at ≤ length w → ((k : ℕ) → Contains next k ↔ Runs p (slice_range w from at) k) → Accepts p (slice_range w from at) ↔ ((k : ℕ) × Contains next k × Contains p.last k)
  accepted_at at next lt le h = (there, λ c. inr (c.0, (h c.0).0 c.1, c.2))
    where
      there : Accepts p (slice_range w from at) → (k : ℕ) × Contains next k × Contains p.last k
      there (inl e) = let z = slice_long at (omega arith) le e.0 in absurd (omega arith)
      there (inr (k, r, l)) = (k, (h k).1 r, l)

  pub ends_more : (at : ℕ) (ends ends' next : List ℕ) → from ≤ at → suc at ≤ length w → ((k : ℕ) → Contains next k ↔ Runs p (slice_range w from (suc at)) k) → HasAllOf (AcceptsTo p w from at) ends → (((k : ℕ) × Contains next k × Contains p.last k) × (ends' ≡ ends ++ suc at ∷ [])) ⊎ ((((k : ℕ) × Contains next k × Contains p.last k) → ⊥) × (ends' ≡ ends)) → HasAllOf (AcceptsTo p w from (suc at)) ends'
  ends_more at ends ends' next le within reached all (inl (l, e)) =
      let accepted = (accepted_at (suc at) next (omega arith) within reached).1 l in
      subst (λ z. HasAllOf (AcceptsTo p w from (suc at)) z) (sym e) (all_push (AcceptsTo p w from at) (AcceptsTo p w from (suc at)) ends (suc at) all (λ h. absurd (omega (arith, h.1))) (omega arith, omega arith, accepted) (λ j h. (h.0, omega (arith, h.1), h.2)) split)
    where
      split : (j : ℕ) → AcceptsTo p w from (suc at) j → AcceptsTo p w from at j ⊎ (suc at ≡ j)
      split j h = elim (cases_eq (suc at) j) [ inl e ↦ inr e | inr ne ↦ let le' = h.1 in inl (h.0, omega arith, h.2) ]
  ends_more at ends ends' next le within reached all (inr (l, e)) =
      subst (λ z. HasAllOf (AcceptsTo p w from (suc at)) z) (sym e) (all_same (AcceptsTo p w from at) (AcceptsTo p w from (suc at)) ends (λ j h. (h.0, omega (arith, h.1), h.2)) back all)
    where
      back : (j : ℕ) → AcceptsTo p w from (suc at) j → AcceptsTo p w from at j
      back j h = elim (cases_eq (suc at) j) [
        | inl e ↦ absurd (l ((accepted_at (suc at) next (omega arith) within reached).0 (subst (λ z. Accepts p (slice_range w from z)) (sym e) h.2)))
        | inr ne ↦ let le' = h.1 in (h.0, omega arith, h.2)
      ]

  -- where the automaton is stuck, all ends are there
  pub ends_stuck : (at : ℕ) (ends next : List ℕ) → from ≤ at → suc at ≤ length w → next ≡ [] → ((k : ℕ) → Contains next k ↔ Runs p (slice_range w from (suc at)) k) → HasAllOf (AcceptsTo p w from at) ends → HasAllOf (AcceptsTo p w from (length w)) ends
  ends_stuck at ends next le within none reached all = all_same (AcceptsTo p w from at) (AcceptsTo p w from (length w)) ends (λ j h. (h.0, omega (arith, h.1), h.2)) back all
    where
      no_more : (k : ℕ) → Runs p (slice_range w from (suc at)) k → ⊥
      no_more k r = none_contained k (subst (λ (z : List ℕ). Contains z k) none ((reached k).1 r))

      back : (j : ℕ) → AcceptsTo p w from (length w) j → AcceptsTo p w from at j
      back j h = elim (cases_lt at j) [
        | inl lt ↦ go lt h.2
        | inr ge ↦ (h.0, ge, h.2)
      ]
        where
          go : at < j → Accepts p (slice_range w from j) → AcceptsTo p w from at j
          go lt (inl e) = let le' = h.0 in let le2 = h.1 in let z = slice_long j h.0 h.1 e.0 in absurd (omega arith)
          go lt (inr (k, r, l)) =
              let le2 = h.1 in
              let e : suc at + (j - suc at) ≡ j = omega arith in
              absurd (stuck (suc at) (omega arith) no_more (j - suc at) k (omega arith) (subst (λ z. Runs p (slice_range w from z) k) (sym e) r))

-- what a test of a position says of it
pub tried : (p : Position) (s x : ℕ) (b : Bool) (others next next' : List ℕ) → others ≡ next → MatchBool b (HasAt p x s × (Contains others x → ⊥)) (HasAt p x s → Contains others x) → ((b ≡ true) × (next' ≡ next ++ x ∷ [])) ⊎ ((b ≡ false) × (next' ≡ next)) → (HasAt p x s × (next' ≡ next ++ x ∷ [])) ⊎ ((HasAt p x s → Contains next x) × (next' ≡ next))
tried p s x true others next next' same h (inl e) = inl (h.0, e.1)
tried p s x true others next next' same h (inr e) = absurd (true≢false e.0)
tried p s x false others next next' same h (inl e) = absurd (true≢false (sym e.0))
tried p s x false others next next' same h (inr e) = inr ((λ a. subst (λ (z : List ℕ). Contains z x) same (h a)), e.1)

has_below : (p : Position) (k s : ℕ) → HasAt p k s → k < length p.classes
has_below p k s h = go (slice_get p.classes k) refl h
  where
    go : (o : Option (List (ℕ × ℕ))) → slice_get p.classes k ≡ o → IsSomeAnd o (λ c. Has c s) → k < length p.classes
    go None e h = absurd h
    go (Some class) e h = slice_get_within p.classes k class e

-- positions that are reached are positions
pub run_below : (p : Position) (w : List ℕ) (k : ℕ) → Runs p w k → k < length p.classes
run_below p w k (begins s f h is) = has_below p k s h
run_below p w k (goes v j s run l h is) = has_below p k s h

pub begun_then : (p : Position) (s : ℕ) (at_start : Bool) (empty first next items : List ℕ) → at_start ≡ true → empty ≡ [] → first ≡ p.first → items ≡ next → ((k : ℕ) → Contains next k ↔ (Contains empty k ⊎ (Contains first k × HasAt p k s))) → (k : ℕ) → Contains items k ↔ ((IsTrue at_start × Contains p.first k) × HasAt p k s)
begun_then p s at_start empty first next items t none e is h k = (
  λ c. there ((h k).0 (subst (λ (z : List ℕ). Contains z k) is c)),
  λ b. subst (λ (z : List ℕ). Contains z k) (sym is) ((h k).1 (inr (subst (λ (z : List ℕ). Contains z k) (sym e) b.0.1, b.1))),
)
  where
    there : Contains empty k ⊎ (Contains first k × HasAt p k s) → (IsTrue at_start × Contains p.first k) × HasAt p k s
    there (inl c) = absurd (none_contained k (subst (λ (z : List ℕ). Contains z k) none c))
    there (inr c) = ((t, subst (λ (z : List ℕ). Contains z k) e c.0), c.1)

pub begun_else : (p : Position) (s : ℕ) (at_start : Bool) (items : List ℕ) → at_start ≡ false → items ≡ [] → (k : ℕ) → Contains items k ↔ ((IsTrue at_start × Contains p.first k) × HasAt p k s)
begun_else p s at_start items f is k = ((λ c. absurd (none_contained k (subst (λ (z : List ℕ). Contains z k) is c))), (λ b. absurd (true≢false (sym b.0.0 ∙ f))))
