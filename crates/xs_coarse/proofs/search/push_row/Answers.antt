use Rattle.std.proofs.Common.{ℕ, [], ◌∷◌, ◌++◌, arith, subst, inl, inr}
use Rattle.std.proofs.lemmas.Bool.{cases_lt}
use Rattle.std.proofs.lemmas.List.Elements.{All-push, Contains-push}
use Rattle.xs_coarse.specs.Found.{HasPair, IsInside, pair}
use Rattle.xs_coarse.proofs.GrowthLemmas.{longer_same, longer_push, longer_has}
use Rattle.xs_coarse.proofs.search.push_row.Goals as goal

pub seconds-init : goal.seconds-init
seconds-init c = record { longer = longer_same c.args.pairs.now.items; inside = λ h. h; each = λ b from before. absurd (omega (arith, from, before)) }

pub seconds-preserved : goal.seconds-preserved
seconds-preserved c =
    let known = c.seconds.invariant in
    let p = pair c.args.first c.seconds.second in
    let is = c.in_ok-push.ensures.items in
    record {
      longer = rw is (longer_push p known.longer);
      inside = λ h. rw is (All-push (IsInside c.args.end c.args.end) c.seconds.pairs.items p (known.inside h) (record { first = c.requires; second = omega (arith, c.seconds-test.true) }));
      each = λ b from before. rw is (elim (cases_lt b c.seconds.second) [
        | inl less ↦ longer_has (longer_push p (longer_same c.seconds.pairs.items)) (pair c.args.first b) (known.each b from less)
        | inr more ↦ subst (λ (k : ℕ). HasPair (c.seconds.pairs.items ++ p ∷ []) c.args.first k) (omega (arith, before, more)) (Contains-push c.seconds.pairs.items p)
      ]);
    }

pub returns-clause-longer : goal.returns-clause-longer
returns-clause-longer c = c.seconds.invariant.longer

pub returns-clause-inside : goal.returns-clause-inside
returns-clause-inside c = c.seconds.invariant.inside

pub returns-clause-each : goal.returns-clause-each
returns-clause-each c = λ b from before. c.seconds.invariant.each b from (omega (arith, before, c.seconds-test.false))
