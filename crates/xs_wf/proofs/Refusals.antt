-- The first seven rules and the last three among all fifteen, and the order in which rules are reported.
use Rattle.std.proofs.Common.{◌≡◌, ◌⊎◌, inl, inr, ◌<◌, ◌≤◌, sym, subst, ℕ, List, arith}
use Rattle.std.proofs.lemmas.Bool.{cases_lt}
use Rattle.xs_sheet.specs.declared.unit.Unit.{Unit}
use Rattle.xs_sheet.specs.declared.sheet.Sheet.{Sheet}
use Rattle.xs_pair.specs.declared.ill.Ill.{Ill}
use Rattle.xs_pair.specs.declared.ill.IllRule.{IllRule}
use Rattle.xs_pair.specs.declared.ill.IllRule.TheVariants.{Twice, Undefined, NoStart, NameOnce, Kind, AttrTwice, RootShape, EmptyClass, NotChar, Normal, Unproductive, Loop, FenceChar, FenceInside, FenceOpen}
use Rattle.xs_pair.specs.declared.fault.PairFault.{PairFault}
use Rattle.xs_pair.specs.declared.fault.PairFault.TheVariants as P
use Rattle.xs_pair.specs.Fences.{FenceFails, IsFenceIll}
use Rattle.xs_pair.specs.Verdict.{FailsAt, NoneFails, NoneBefore, IsFirstIll, IsRefusal as IsPairRefusal, order}
use Rattle.xs_wf.specs.Passing.{fault_of}
use Rattle.xs_wf.specs.Rules.{Fails, IsWell, IsRefusal}

-- where one of the first seven rules fails, it is one of the first seven
seven_fail : (s : Sheet) (rule : IllRule) (line : ℕ) → FailsAt s rule line → Fails s rule line
seven_fail s Twice line fails = fails
seven_fail s Undefined line fails = fails
seven_fail s NoStart line fails = fails
seven_fail s NameOnce line fails = fails
seven_fail s Kind line fails = fails
seven_fail s AttrTwice line fails = fails
seven_fail s RootShape line fails = fails
seven_fail s EmptyClass line fails = absurd fails
seven_fail s NotChar line fails = absurd fails
seven_fail s Normal line fails = absurd fails
seven_fail s Unproductive line fails = absurd fails
seven_fail s Loop line fails = absurd fails
seven_fail s FenceChar line fails = absurd fails
seven_fail s FenceInside line fails = absurd fails
seven_fail s FenceOpen line fails = absurd fails

among_seven : (s : Sheet) (rule : IllRule) (line : ℕ) → FailsAt s rule line → order rule < 7
among_seven s Twice line fails = omega arith
among_seven s Undefined line fails = omega arith
among_seven s NoStart line fails = omega arith
among_seven s NameOnce line fails = omega arith
among_seven s Kind line fails = omega arith
among_seven s AttrTwice line fails = omega arith
among_seven s RootShape line fails = omega arith
among_seven s EmptyClass line fails = absurd fails
among_seven s NotChar line fails = absurd fails
among_seven s Normal line fails = absurd fails
among_seven s Unproductive line fails = absurd fails
among_seven s Loop line fails = absurd fails
among_seven s FenceChar line fails = absurd fails
among_seven s FenceInside line fails = absurd fails
among_seven s FenceOpen line fails = absurd fails

fail_seven : (s : Sheet) (rule : IllRule) (line : ℕ) → order rule < 7 → Fails s rule line → FailsAt s rule line
fail_seven s Twice line lt fails = fails
fail_seven s Undefined line lt fails = fails
fail_seven s NoStart line lt fails = fails
fail_seven s NameOnce line lt fails = fails
fail_seven s Kind line lt fails = fails
fail_seven s AttrTwice line lt fails = fails
fail_seven s RootShape line lt fails = fails
fail_seven s EmptyClass line lt fails = absurd (omega (arith, lt))
fail_seven s NotChar line lt fails = absurd (omega (arith, lt))
fail_seven s Normal line lt fails = absurd (omega (arith, lt))
fail_seven s Unproductive line lt fails = absurd (omega (arith, lt))
fail_seven s Loop line lt fails = absurd (omega (arith, lt))
fail_seven s FenceChar line lt fails = absurd (omega (arith, lt))
fail_seven s FenceInside line lt fails = absurd (omega (arith, lt))
fail_seven s FenceOpen line lt fails = absurd (omega (arith, lt))

first_ill : (s : Sheet) (ill : Ill) → IsFirstIll (FailsAt s) ill → IsFirstIll (Fails s) ill
first_ill s ill is =
    let low = among_seven s ill.rule ill.line is.line.fails in
    record {
      line = record { fails = seven_fail s ill.rule ill.line is.line.fails; least = λ other fails. is.line.least other (fail_seven s ill.rule other low fails) };
      first = λ rule line lt fails. is.first rule line lt (fail_seven s rule line (omega (arith, lt, low)) fails);
    }

-- a refusal by one of the first seven rules is one by all fifteen
pub refusal_kept : (s : Sheet) (fault : PairFault) → IsPairRefusal s fault → IsRefusal s (fault_of fault)
refusal_kept s (P.Ill ill) is = first_ill s ill is
refusal_kept s P.Memory is = is

pub before_eight : (s : Sheet) → NoneFails (FailsAt s) → NoneBefore (Fails s) 7
before_eight s passed = λ rule line lt fails. passed rule line (fail_seven s rule line lt fails)

-- a rule that is one of the first seven fails nowhere, where none of them does
pub none_of_seven : (s : Sheet) (rule first : IllRule) → rule ≡ first → order first < 7 → NoneFails (FailsAt s) → (line : ℕ) → Fails s rule line → ⊥
none_of_seven s rule first is lt passed line fails = passed rule line (fail_seven s rule line (subst (λ r. order r < 7) (sym is) lt) fails)

-- the rules on fences are the last three
fence_fails : (s : Sheet) (rule : IllRule) (line : ℕ) → FenceFails s.units rule line → Fails s rule line
fence_fails s Twice line fails = absurd fails
fence_fails s Undefined line fails = absurd fails
fence_fails s NoStart line fails = absurd fails
fence_fails s NameOnce line fails = absurd fails
fence_fails s Kind line fails = absurd fails
fence_fails s AttrTwice line fails = absurd fails
fence_fails s RootShape line fails = absurd fails
fence_fails s EmptyClass line fails = absurd fails
fence_fails s NotChar line fails = absurd fails
fence_fails s Normal line fails = absurd fails
fence_fails s Unproductive line fails = absurd fails
fence_fails s Loop line fails = absurd fails
fence_fails s FenceChar line fails = fails
fence_fails s FenceInside line fails = fails
fence_fails s FenceOpen line fails = fails

among_last : (us : List Unit) (rule : IllRule) (line : ℕ) → FenceFails us rule line → 12 ≤ order rule
among_last us Twice line fails = absurd fails
among_last us Undefined line fails = absurd fails
among_last us NoStart line fails = absurd fails
among_last us NameOnce line fails = absurd fails
among_last us Kind line fails = absurd fails
among_last us AttrTwice line fails = absurd fails
among_last us RootShape line fails = absurd fails
among_last us EmptyClass line fails = absurd fails
among_last us NotChar line fails = absurd fails
among_last us Normal line fails = absurd fails
among_last us Unproductive line fails = absurd fails
among_last us Loop line fails = absurd fails
among_last us FenceChar line fails = omega arith
among_last us FenceInside line fails = omega arith
among_last us FenceOpen line fails = omega arith

fails_fence : (s : Sheet) (rule : IllRule) (line : ℕ) → 12 ≤ order rule → Fails s rule line → FenceFails s.units rule line
fails_fence s Twice line high fails = absurd (omega (arith, high))
fails_fence s Undefined line high fails = absurd (omega (arith, high))
fails_fence s NoStart line high fails = absurd (omega (arith, high))
fails_fence s NameOnce line high fails = absurd (omega (arith, high))
fails_fence s Kind line high fails = absurd (omega (arith, high))
fails_fence s AttrTwice line high fails = absurd (omega (arith, high))
fails_fence s RootShape line high fails = absurd (omega (arith, high))
fails_fence s EmptyClass line high fails = absurd (omega (arith, high))
fails_fence s NotChar line high fails = absurd (omega (arith, high))
fails_fence s Normal line high fails = absurd (omega (arith, high))
fails_fence s Unproductive line high fails = absurd (omega (arith, high))
fails_fence s Loop line high fails = absurd (omega (arith, high))
fails_fence s FenceChar line high fails = fails
fails_fence s FenceInside line high fails = fails
fails_fence s FenceOpen line high fails = fails

-- the first of all that fails is the first of the last three, where no rule before them fails
pub fence_first : (s : Sheet) (ill : Ill) → NoneBefore (Fails s) 12 → IsFirstIll (FenceFails s.units) ill → IsFirstIll (Fails s) ill
fence_first s ill before is =
    let high = among_last s.units ill.rule ill.line is.line.fails in
    record {
      line = record { fails = fence_fails s ill.rule ill.line is.line.fails; least = λ other fails. is.line.least other (fails_fence s ill.rule other high fails) };
      first = λ rule line lt fails. by_case rule line lt fails (cases_lt (order rule) 12);
    }
  where
    by_case : (rule : IllRule) (line : ℕ) → order rule < order ill.rule → Fails s rule line → (order rule < 12) ⊎ (12 ≤ order rule) → ⊥
    by_case rule line lt fails (inl low) = before rule line low fails
    by_case rule line lt fails (inr up) = is.first rule line lt (fails_fence s rule line up fails)

-- no rule fails, where none before the last three and none of them does
pub none_at_all : (s : Sheet) → NoneBefore (Fails s) 12 → NoneFails (FenceFails s.units) → IsWell s
none_at_all s before last rule line fails = by_case (cases_lt (order rule) 12)
  where
    by_case : (order rule < 12) ⊎ (12 ≤ order rule) → ⊥
    by_case (inl low) = before rule line low fails
    by_case (inr up) = last rule line (fails_fence s rule line up fails)
