use Rattle.std.proofs.Common.{◌≡◌, ℕ, ◌+◌, ◌∷◌, ◌++◌, [], get_or, take, inl, inr, subst}
use Rattle.std.proofs.lemmas.List.{take_more, take_all}
use Rattle.std.proofs.lemmas.List.Elements.{Contains-push_cases}
use Rattle.xs_clauses.specs.Search.{IsSettled}
use Rattle.xs_clauses.proofs.Growth.{grows_then, found_on, settled_on}
use Rattle.xs_clauses.proofs.search.Search.advance_all.Goals as goal

pub places-preserved : goal.places-preserved
places-preserved c =
    let start = c.args.self.now in
    let old = c.places.self in
    let new = c.advance.new.self in
    let clauses = c.args.clauses.now in
    let known = c.places.invariant in
    let step = c.in_ok-advance.ensures in
    let place = get_or c.args.places.now c.places.place-index 0 in
    let more : take (c.places.place-index + 1) c.args.places.now ≡ take c.places.place-index c.args.places.now ++ place ∷ [] = take_more c.args.places.now c.places.place-index 0 c.places-test.true in
    record {
      fits = step.fits;
      grows = grows_then start old new known.grows step.grows;
      settled = λ k h. elim (Contains-push_cases (take c.places.place-index c.args.places.now) place k (rw more at h)) [
        | inl before ↦ settled_on clauses old.flags.items new.flags.items start.found.items start.found.items k step.grows.kept (λ n i. i) (known.settled k before)
        | inr here ↦ subst (λ (j : ℕ). IsSettled clauses new.flags.items start.found.items j) here (settled_on clauses new.flags.items new.flags.items old.found.items start.found.items place (λ n i. i) (found_on start old known.grows) step.settled)
      ];
    }

pub returns-clause-settled : goal.returns-clause-settled
returns-clause-settled c = λ k h. c.places.invariant.settled k (rw (take_all c.places.place-index c.args.places.now c.places-test.false) h)
