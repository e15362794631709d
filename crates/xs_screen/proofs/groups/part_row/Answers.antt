use Rattle.std.proofs.Common.{◌≡◌, ℕ, subst, arith, inl, inr}
use Rattle.std.proofs.lemmas.Bool.{cases_lt}
use Rattle.xs_screen.specs.Parting.{AreBothSettled}
use Rattle.xs_screen.proofs.Parting.{parts_on}
use Rattle.xs_screen.proofs.groups.part_row.Goals as goal

pub returns-in_err-part_pair-clause-stay : goal.returns-in_err-part_pair-clause-stay
returns-in_err-part_pair-clause-stay c = λ h k le other was. c.in_err-part_pair.ensures.stay h k le (λ e. other e.0) (c.seconds.invariant.stay h k le other was)

pub returns-then-not-branch-clause-stay : goal.returns-then-not-branch-clause-stay
returns-then-not-branch-clause-stay c = λ h k le other was. c.in_ok-part_pair.ensures.stay h k le (λ e. other e.0) (c.seconds.invariant.stay h k le other was)

pub seconds-preserved : goal.seconds-preserved
seconds-preserved c = record {
  parts = parts_on c.seconds.invariant.parts c.in_ok-part_pair.ensures.parts;
  stay = λ h k le other was. c.in_ok-part_pair.ensures.stay h k le (λ e. other e.0) (c.seconds.invariant.stay h k le other was);
  row = λ k low high. elim (cases_lt k c.seconds.second) [
    | inl less ↦ c.in_ok-part_pair.ensures.stay c.args.first k low (λ e. omega (arith, less, e.1)) (c.seconds.invariant.row k low less)
    | inr more ↦ let same : c.seconds.second ≡ k = omega (arith, more, high) in subst (λ (x : ℕ). AreBothSettled c.args.contents.now c.part_pair.new.labels c.args.first x) same (c.in_ok-part_pair.ensures.settled c.if-not-branch.false)
  ];
}

pub returns-clause-settled : goal.returns-clause-settled
returns-clause-settled c = λ e k low high. c.seconds.invariant.row k low (omega (arith, high, c.requires.count, c.seconds-test.false, c.seconds.auto.second-end))
