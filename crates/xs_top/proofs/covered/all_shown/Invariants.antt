use Rattle.std.proofs.Common.{◌≡◌, ◌<◌, ℕ, length, get_or}
use Rattle.xs_talk.specs.declared.covers.Shown.TheVariants as S
use Rattle.xs_top.specs.Covering.{IsShown}
use Rattle.xs_top.proofs.covered.all_shown.Given as goal

abbrev pub invariant-rules : goal.invariant-rules
invariant-rules l = record {
  counted : length l.all.items ≡ l.rule;
  each : (p : ℕ) → p < l.rule → IsShown l.two p (get_or l.all.items p S.Unreached);
}
