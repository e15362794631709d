-- Steps of an automaton as clauses, and the positions that they make.
use Rattle.std.proofs.Common.{◌≡◌, ℕ, zero, suc, ◌+◌, ◌<◌, Bool, List, [], ◌∷◌, ◌++◌, length, get_or, take, refl, sym, ap, subst, ◌∙◌, inl, inr, arith, Some, None, slice_get}
use Rattle.std.specs.declared.option.Option.{Option}
use Rattle.std.specs.Option.{IsSomeAnd}
use Rattle.std.specs.List.{Contains}
use Rattle.std.proofs.lemmas.Bool.{cases_lt}
use Rattle.std.proofs.lemmas.Option.{slice_get_within}
use Rattle.std.proofs.lemmas.List.{take_more}
use Rattle.std.proofs.lemmas.List.Elements.{Contains-get_or, Contains-append_left, Contains-push, Contains-push_cases}
use Rattle.xs_clauses.specs.declared.clause.Clause.{Clause}
use Rattle.xs_clauses.specs.Made.{IsMade, AreFlags, IsBelow as HasBelow, AreBelow}
use Rattle.xs_clauses.proofs.Complete.{head_is_made, made_least}
use Rattle.xs_regex.specs.declared.position.Position.{Position}
use Rattle.xs_regex.specs.Automaton.{Leads, Runs, begins, goes, IsWellFormed}
use Rattle.xs_order.specs.Runs.{HasSymbol, IsReached, GoesTo, premises_from, step_to, AreSteps, AreAdded}
use Rattle.xs_class.proofs.Lists.{one_contains}

only_one : (x y : ℕ) → Contains (x ∷ []) y → x ≡ y
only_one x y (zero, l, e) = e
only_one x y (suc k, l, e) = absurd (omega arith)

pub added_none : (a : Position) (from : Option ℕ) (clauses : List Clause) → AreAdded a from [] clauses clauses
added_none a from clauses = record {
  kept = λ c h. h;
  there = λ k h. absurd (omega (arith, h.1));
  only = λ c h. inl h;
}

-- a target whose class has no symbol, and one whose class has one
pub added_same : (a : Position) (from : Option ℕ) (target : ℕ) (clauses : List Clause) → (HasSymbol a target → ⊥) → AreAdded a from (target ∷ []) clauses clauses
added_same a from target clauses no_symbol = record {
  kept = λ c h. h;
  there = λ k h symbol. absurd (no_symbol (subst (HasSymbol a) (sym (only_one target k h)) symbol));
  only = λ c h. inl h;
}

pub added_one : (a : Position) (from : Option ℕ) (target : ℕ) (clauses : List Clause) (c : Clause) → HasSymbol a target → c ≡ step_to from target → AreAdded a from (target ∷ []) clauses (clauses ++ c ∷ [])
added_one a from target clauses c symbol is = record {
  kept = λ d h. Contains-append_left clauses (c ∷ []) d h;
  there = λ k h _. rw (← only_one target k h, ← is) (Contains-push clauses c);
  only = λ d h. elim (Contains-push_cases clauses c d h) [
    | inl before ↦ inl before
    | inr e ↦ inr (record { to = target; among = one_contains target; symbol = symbol; is = sym e ∙ is })
  ];
}

pub added_more : (a : Position) (from : Option ℕ) (targets : List ℕ) (i target : ℕ) (old clauses new : List Clause) → i < length targets → target ≡ get_or targets i 0 → AreAdded a from (take i targets) old clauses → AreAdded a from (target ∷ []) clauses new → AreAdded a from (take (i + 1) targets) old new
added_more a from targets i target old clauses new l is known one = record {
  kept = λ c h. one.kept c (known.kept c h);
  there = λ k h symbol. elim (Contains-push_cases (take i targets) target k (rw front at h)) [
    | inl before ↦ one.kept (step_to from k) (known.there k before symbol)
    | inr e ↦ one.there k (rw e (one_contains k)) symbol
  ];
  only = λ c h. elim (one.only c h) [
    | inl before ↦ elim (known.only c before) [
      | inl older ↦ inl older
      | inr s ↦ inr (record { to = s.to; among = rw front (Contains-append_left (take i targets) (target ∷ []) s.to s.among); symbol = s.symbol; is = s.is })
    ]
    | inr s ↦ inr (record { to = s.to; among = rw (front, ← only_one target s.to s.among) (Contains-push (take i targets) target); symbol = s.symbol; is = s.is })
  ];
}
  where
    front : take (i + 1) targets ≡ take i targets ++ target ∷ []
    front = take_more targets i 0 l ∙ ap (λ (x : ℕ). take i targets ++ x ∷ []) (sym is)

-- the steps from the start
pub steps_none : (a : Position) (clauses : List Clause) → AreAdded a None a.first [] clauses → AreSteps a 0 clauses
steps_none a clauses added = record {
  starts = λ k h symbol. added.there k h symbol;
  steps = λ j k l. absurd (omega arith);
  only = λ c h. elim (added.only c h) [
    | inl before ↦ absurd (omega (arith, before.1))
    | inr s ↦ record { from = None; to = s.to; goes = s.among; symbol = s.symbol; is = s.is }
  ];
}

-- the steps from one more position
pub steps_more : (a : Position) (k : ℕ) (row : List ℕ) (clauses new : List Clause) → slice_get a.follow k ≡ Some row → AreAdded a (Some k) row clauses new → AreSteps a k clauses → AreSteps a (k + 1) new
steps_more a k row clauses new at added known = record {
  starts = λ i h symbol. added.kept (step_to None i) (known.starts i h symbol);
  steps = λ j i l leads symbol. elim (cases_lt j k) [
    | inl before ↦ added.kept (step_to (Some j) i) (known.steps j i before leads symbol)
    | inr after ↦
        let here : j ≡ k = omega arith in
        rw here (added.there i (rw (here, at) at leads) symbol)
  ];
  only = λ c h. elim (added.only c h) [
    | inl before ↦ known.only c before
    | inr s ↦ record { from = Some k; to = s.to; goes = rw at s.among; symbol = s.symbol; is = s.is }
  ];
}

-- a position that goes on has a row
row_within : (a : Position) (j k : ℕ) (o : Option (List ℕ)) → slice_get a.follow j ≡ o → IsSomeAnd o (λ row. Contains row k) → j < length a.follow
row_within a j k None e h = absurd h
row_within a j k (Some row) e h = slice_get_within a.follow j row e

within_rows : (a : Position) (j k : ℕ) → Leads a j k → j < length a.follow
within_rows a j k leads = row_within a j k (slice_get a.follow j) refl leads

-- all numbers of the steps are positions
pub steps_below : (a : Position) (clauses : List Clause) → IsWellFormed a → AreSteps a (length a.follow) clauses → AreBelow (length a.classes) clauses
steps_below a clauses formed steps i d l =
    let step = steps.only (get_or clauses i d) (Contains-get_or clauses i d l) in
    subst (HasBelow (length a.classes)) (sym step.is) (below step.from step.to step.goes)
  where
    below : (from : Option ℕ) (to : ℕ) → GoesTo a from to → HasBelow (length a.classes) (step_to from to)
    below None to leads = record { head = formed.first_in to leads; premises = λ k e lt. absurd (omega arith) }
    below (Some j) to leads = record {
      head = formed.follow_in j to leads;
      premises = λ k e lt. omega (arith, within_rows a j to leads, formed.rows, only_one j (get_or (j ∷ []) k e) (Contains-get_or (j ∷ []) k e lt));
    }

-- what the steps make are the positions to which words lead
pub made_is_reached : (a : Position) (clauses : List Clause) → AreSteps a (length a.follow) clauses → (k : ℕ) → IsMade clauses k → IsReached a k
made_is_reached a clauses steps = made_least clauses (IsReached a) closed
  where
    led : (from : Option ℕ) (to : ℕ) → GoesTo a from to → HasSymbol a to → ((m : ℕ) → Contains (premises_from from) m → IsReached a m) → IsReached a to
    led None to first symbol each = (symbol.0 ∷ [], begins symbol.0 first symbol.1 refl)
    led (Some j) to leads symbol each =
        let before = each j (one_contains j) in
        (before.0 ++ symbol.0 ∷ [], goes before.0 j symbol.0 before.1 leads symbol.1 refl)

    closed : (c : Clause) → Contains clauses c → ((m : ℕ) → Contains c.premises m → IsReached a m) → IsReached a c.head
    closed c has each =
        let step = steps.only c has in
        subst (λ (d : Clause). IsReached a d.head) (sym step.is) (led step.from step.to step.goes step.symbol (subst (λ (d : Clause). (m : ℕ) → Contains d.premises m → IsReached a m) step.is each))

pub reached_is_made : (a : Position) (clauses : List Clause) → AreSteps a (length a.follow) clauses → (w : List ℕ) (k : ℕ) → Runs a w k → IsMade clauses k
reached_is_made a clauses steps w k (begins s first at is) = head_is_made clauses (step_to None k) (steps.starts k first (s, at)) (λ m h. absurd (omega (arith, h.1)))
reached_is_made a clauses steps w k (goes v j s run leads at is) = head_is_made clauses (step_to (Some j) k) (steps.steps j k (within_rows a j k leads) leads (s, at)) (λ m h. subst (λ (x : ℕ). IsMade clauses x) (only_one j m h) (reached_is_made a clauses steps v j run))

-- so the flags are exact
pub flags_of_reached : (a : Position) (clauses : List Clause) (count : ℕ) (flags : List Bool) → AreSteps a (length a.follow) clauses → AreFlags (IsMade clauses) count flags → AreFlags (IsReached a) count flags
flags_of_reached a clauses count flags steps made = record {
  counted = made.counted;
  exact = λ k l. (λ s. made_is_reached a clauses steps k ((made.exact k l).0 s), λ r. (made.exact k l).1 (reached_is_made a clauses steps r.0 k r.1));
}
