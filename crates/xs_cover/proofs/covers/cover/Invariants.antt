use Rattle.std.proofs.Common.{◌≡◌, ◌<◌, ℕ, length, None, get_or}
use Rattle.xs_cover.specs.Sizes.{IsLeastSize}
use Rattle.xs_cover.proofs.covers.cover.Given as goal

abbrev pub invariant-rules : goal.invariant-rules
invariant-rules l = record {
  counted : length l.sizes.items ≡ l.rule;
  each : (p : ℕ) → p < l.rule → IsLeastSize l.two.text l.two.xml p (get_or l.sizes.items p None);
}
