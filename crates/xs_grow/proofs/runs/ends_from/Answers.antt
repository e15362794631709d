use Rattle.std.proofs.Common.{suc, ◌≤◌, ◌≡◌, ◌↔◌, ◌+◌, ◌∷◌, ◌++◌, [], ℕ, List, length, sym, subst, arith, ap, ◌∙◌, inl, inr, true≢false, Vec, Global, vec_len}
use Rattle.std.specs.Prelude.{Contains, IsTrue, slice_range, ◌==◌}
use Rattle.std.proofs.lemmas.Bool.{eqb-true}
use Rattle.std.proofs.lemmas.Bool.Decides.{Decides-eqb}
use Rattle.std.proofs.lemmas.List.{nil_from_length}
use Rattle.xs_regex.proofs.Runs.{no_run}
use Rattle.xs_regex.specs.Automaton.{Runs}
use Rattle.xs_grow.specs.Lists.{HasAllOf}
use Rattle.xs_grow.specs.Running.{AcceptsTo}
use Rattle.xs_grow.proofs.ListLemmas.{none_contained}
use Rattle.xs_grow.proofs.Runnings.{slice_none, run_below, reached_more, ends_first, ends_more, ends_stuck}
use Rattle.xs_grow.proofs.runs.ends_from.Goals as goal
use Rattle.xs_grow.proofs.runs.ends_from.Goals.{then-p+in_ok-push, else-p, then-has_last+in_ok-push-2, else-has_last}

empty : {X : Type 0} (v : Vec X Global) → vec_len v ≡ 0 → length v.items ≡ 0
empty v e = omega (arith, v.ok)

pub symbols-init : goal.symbols-init
symbols-init c =
    let p = c.args.p.now in
    let w = c.args.doc.now in
    let from = c.args.from in
    record {
      reached = λ k. (
        λ h. absurd (none_contained k (subst (λ (z : List ℕ). Contains z k) c.new-reached.ensures.items h)),
        λ r. absurd (no_run p (slice_range w from from) k (slice_none p w from) r),
      );
      ends = ends_first p w from c.if-p.ends.items (elim c.if-p.branch [
        | then-p+in_ok-push w ↦ inl (w.if-p.true, ap (λ v. v.items) w.ends-is ∙ (w.in_ok-push.ensures.items ∙ ap (λ z. z ++ from ∷ []) c.new-ends.ensures.items))
        | else-p w ↦ inr ((λ t. true≢false (sym t ∙ w.if-p.false)), ap (λ v. v.items) w.ends-is ∙ c.new-ends.ensures.items)
      ]);
    }

pub step-requires-clause-positions : goal.step-requires-clause-positions
step-requires-clause-positions c = λ k h. run_below c.args.p.now (slice_range c.args.doc.now c.args.from c.symbols.at) k ((c.symbols.invariant.reached k).0 (rw c.deref.ensures.value at h))

pub returns-then-is_empty : goal.returns-then-is_empty
returns-then-is_empty c =
    let p = c.args.p.now in
    let w = c.args.doc.now in
    let from = c.args.from in
    let at = c.symbols.at in
    let within : suc at ≤ length w = omega arith in
    let start : from ≤ at = omega arith in
    let before = subst (λ (z : List ℕ). (k : ℕ) → Contains z k ↔ Runs p (slice_range w from at) k) (sym c.deref.ensures.value) c.symbols.invariant.reached in
    let now = reached_more p w from at c.at.result (at == from) c.deref.result.now c.in_ok-reached.reached.items start c.at.ensures (Decides-eqb at from) before c.in_ok-reached.ensures in
    let zero = eqb-true (vec_len c.in_ok-reached.reached) 0 (sym c.is_empty.ensures ∙ c.if-is_empty.true) in
    let none = nil_from_length c.in_ok-reached.reached.items (empty c.in_ok-reached.reached zero) in
    ends_stuck p w from at c.symbols.ends.items c.in_ok-reached.reached.items start within none now c.symbols.invariant.ends

pub symbols-preserved : goal.symbols-preserved
symbols-preserved c =
    let p = c.args.p.now in
    let w = c.args.doc.now in
    let from = c.args.from in
    let at = c.symbols.at in
    let next = c.in_ok-reached.reached.items in
    let within : suc at ≤ length w = omega arith in
    let start : from ≤ at = omega arith in
    let one : at + 1 ≡ suc at = omega arith in
    let before = subst (λ (z : List ℕ). (k : ℕ) → Contains z k ↔ Runs p (slice_range w from at) k) (sym c.deref.ensures.value) c.symbols.invariant.reached in
    let now = reached_more p w from at c.at.result (at == from) c.deref.result.now next start c.at.ensures (Decides-eqb at from) before c.in_ok-reached.ensures in
    let has = subst (λ (z : List ℕ). IsTrue c.has_last.result ↔ ((k : ℕ) × Contains z k × Contains p.last k)) c.deref-in-symbols.ensures.value c.has_last.ensures in
    let ends = ends_more p w from at c.symbols.ends.items c.if-has_last.ends.items next start within now c.symbols.invariant.ends (elim c.if-has_last.branch [
      | then-has_last+in_ok-push-2 w ↦ inl (has.0 w.if-has_last.true, ap (λ v. v.items) w.ends-is ∙ (w.in_ok-push-2.ensures.items ∙ ap (λ z. c.symbols.ends.items ++ z ∷ []) one))
      | else-has_last w ↦ inr ((λ l. true≢false (sym (has.1 l) ∙ w.if-has_last.false)), ap (λ v. v.items) w.ends-is)
    ]) in
    record {
      reached = λ k. subst (λ (z : ℕ). Contains next k ↔ Runs p (slice_range w from z) k) (sym one) (now k);
      ends = subst (λ (z : ℕ). HasAllOf (AcceptsTo p w from z) c.if-has_last.ends.items) (sym one) ends;
    }

pub returns : goal.returns
returns c =
    let p = c.args.p.now in
    let w = c.args.doc.now in
    let from = c.args.from in
    let most : c.symbols.at ≤ c.len-at-end.result = c.symbols.auto.at-end (omega arith) in
    let whole : c.symbols.at ≡ length w = omega arith in
    subst (λ (z : ℕ). HasAllOf (AcceptsTo p w from z) c.symbols.ends.items) whole c.symbols.invariant.ends
