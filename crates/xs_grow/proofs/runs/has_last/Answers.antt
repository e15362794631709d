use Rattle.std.proofs.Common.{◌≡◌, ◌+◌, ◌∷◌, ◌++◌, [], ℕ, List, take, get_or, sym, subst, inl, inr, arith, ◌∙◌, true≢false}
use Rattle.std.specs.List.{Contains}
use Rattle.std.proofs.lemmas.Bool.Decides.{Decides-eqb}
use Rattle.std.proofs.lemmas.List.{take_more, take_all}
use Rattle.std.proofs.lemmas.List.Elements.{Contains-push_cases, contains_decides, Decides-contains}
use lib.Dec.{eqb}
use Rattle.xs_grow.proofs.runs.has_last.Goals as goal

pub reached-preserved : goal.reached-preserved
reached-preserved c = λ k h l.
    let reached = c.args.reached.now in
    let i = c.reached.position-index in
    let x = get_or reached i 0 in
    let e : take (i + 1) reached ≡ take i reached ++ x ∷ [] = take_more reached i 0 (omega arith) in
    let d = Decides-contains c.as_slice.result.now x c.contains.result (contains_decides eqb Decides-eqb c.as_slice.result.now x c.contains.result c.contains.ensures.cases) in
    elim (Contains-push_cases (take i reached) x k (subst (λ (z : List ℕ). Contains z k) e h)) [
      | inl old ↦ c.reached.invariant k old l
      | inr is ↦ true≢false (sym (d.1 (rw c.as_slice.ensures (subst (λ z. Contains c.args.p.now.last z) (sym is) l))) ∙ c.if-contains.false)
    ]

pub returns : goal.returns
returns c =
    let whole = take_all c.reached.position-index c.args.reached.now (omega arith) in
    ((λ e. cc), (λ h. absurd (c.reached.invariant h.0 (subst (λ (z : List ℕ). Contains z h.0) (sym whole) h.1) h.2)))
