use Rattle.std.proofs.Common.{◌≡◌, ℕ, length, subst, arith, inl, inr}
use Rattle.std.proofs.lemmas.Bool.{cases_lt}
use Rattle.xs_screen.specs.Parting.{IsRowSettled}
use Rattle.xs_screen.proofs.Parting.{parts_on, rows_settled}
use Rattle.xs_screen.proofs.groups.part_groups.Goals as goal

pub firsts-preserved : goal.firsts-preserved
firsts-preserved c = record {
  parts = parts_on c.firsts.invariant.parts c.in_ok-part_row.ensures.parts;
  rows = λ h low. elim (cases_lt h c.firsts.first) [
    | inl less ↦ λ k le high. c.in_ok-part_row.ensures.stay h k le (λ e. omega (arith, less, e)) (c.firsts.invariant.rows h less k le high)
    | inr more ↦ let same : c.firsts.first ≡ h = omega (arith, more, low) in subst (λ (x : ℕ). IsRowSettled c.args.contents.now c.part_row.new.labels x (length c.args.contents.now)) same (c.in_ok-part_row.ensures.settled c.if-not-branch.false)
  ];
}

pub returns-clause-settled : goal.returns-clause-settled
returns-clause-settled c = λ e. rows_settled c.args.contents.now c.firsts.labels (λ h low. c.firsts.invariant.rows h (omega (arith, low, c.firsts-test.false, c.firsts.auto.first-end, c.in-Ok.ensures)))
