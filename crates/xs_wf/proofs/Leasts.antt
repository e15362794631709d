-- The least line of two kinds of failure.
use Rattle.std.proofs.Common.{◌≡◌, ◌⊎◌, ◌<◌, ◌≤◌, inl, inr, subst, ℕ, Some, None, arith}
use Rattle.std.specs.Prelude.{min}
use Rattle.std.specs.declared.option.Option.{Option}
use Rattle.std.proofs.lemmas.Bool.{cases_lt}
use Rattle.xs_pair.specs.Verdict.{IsFirstLine}
use Rattle.xs_wf.specs.Units.{lesser}

pub lesser_first : (P Q : ℕ → Type 0) (one other : Option ℕ) → IsFirstLine P one → IsFirstLine Q other → IsFirstLine (λ line. P line ⊎ Q line) (lesser one other)
lesser_first P Q None None first second = λ line fails. elim fails [ inl p ↦ first line p | inr q ↦ second line q ]
lesser_first P Q None (Some least) first second = record {
  fails = inr second.fails;
  least = λ line fails. elim fails [ inl p ↦ absurd (first line p) | inr q ↦ second.least line q ];
}
lesser_first P Q (Some least) None first second = record {
  fails = inl first.fails;
  least = λ line fails. elim fails [ inl p ↦ first.least line p | inr q ↦ absurd (second line q) ];
}
lesser_first P Q (Some one) (Some other) first second = record {
  fails = by_order (cases_lt other one);
  least = λ line fails. elim fails [
    | inl p ↦ let low = first.least line p in omega arith
    | inr q ↦ let low = second.least line q in omega arith
  ];
}
  where
    by_order : (other < one) ⊎ (one ≤ other) → P (min other one) ⊎ Q (min other one)
    by_order (inl low) = let is : other ≡ min other one = omega arith in inr (subst Q is second.fails)
    by_order (inr high) = let is : one ≡ min other one = omega arith in inl (subst P is first.fails)
