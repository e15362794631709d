use Rattle.std.proofs.Common.{◌≡◌, ℕ, inl, inr, subst, arith}
use Rattle.std.proofs.lemmas.Bool.{cases_lt}
use Rattle.xs_clauses.specs.Search.{IsSettled}
use Rattle.xs_clauses.proofs.Growth.{grows_then, found_on, settled_on}
use Rattle.xs_clauses.proofs.search.Search.begin.Goals as goal

pub clauses-preserved : goal.clauses-preserved
clauses-preserved c =
    let start = c.args.self.now in
    let old = c.clauses.self in
    let new = c.advance.new.self in
    let clauses = c.args.clauses.now in
    let known = c.clauses.invariant in
    let step = c.in_ok-advance.ensures in
    record {
      fits = step.fits;
      grows = grows_then start old new known.grows step.grows;
      settled = λ k h. elim (cases_lt k c.clauses.place) [
        | inl before ↦ settled_on clauses old.flags.items new.flags.items start.found.items start.found.items k step.grows.kept (λ n i. i) (known.settled k before)
        | inr after ↦
            let here : c.clauses.place ≡ k = omega arith in
            subst (λ (j : ℕ). IsSettled clauses new.flags.items start.found.items j) here (settled_on clauses new.flags.items new.flags.items old.found.items start.found.items c.clauses.place (λ n i. i) (found_on start old known.grows) step.settled)
      ];
    }
