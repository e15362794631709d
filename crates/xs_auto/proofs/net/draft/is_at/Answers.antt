use Rattle.std.proofs.Common.{[], ◌∙◌, sym}
use Rattle.xs_class.proofs.Ranges.{same_ranges}
use Rattle.xs_auto.proofs.net.draft.is_at.Goals as goal

pub returns-in-Some : goal.returns-in-Some
returns-in-Some c = λ t. record {
  below = c.in-Some.ensures.lookup.3.0;
  is = sym (c.in-Some.ensures.lookup.3.1 []) ∙ sym c.ranges-in-Some.ensures.value ∙ same_ranges _ _ c.eq.result c.eq.ensures t ∙ c.ranges-in-Some-2.ensures.value;
}
