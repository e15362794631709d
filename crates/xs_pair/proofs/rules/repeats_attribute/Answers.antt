use Rattle.std.proofs.Common.{◌≡◌, ◌∙◌, subst}
use Rattle.std.specs.Prelude.{MatchBool}
use Rattle.xs_pair.specs.Directories.{IsDistinct}
use Rattle.xs_pair.specs.Rules.{HasRepeat}
use Rattle.xs_pair.proofs.Decided.{repeat_test}
use Rattle.xs_pair.proofs.rules.repeats_attribute.Goals as goal

pub returns-in_ok-directory-in-Opening : goal.returns-in_ok-directory-in-Opening
returns-in_ok-directory-in-Opening c =
    let same : c.in_ok-directory-in-Opening.directory ≡ c.in-Opening.attributes = c.in_ok-directory-in-Opening.ensures ∙ c.in_ok-names-in-Opening.ensures ∙ c.as_slice.ensures in
    rw c.in-Opening.is (repeat_test c.is_distinct-distinct.result c.in-Opening.attributes
    (subst (λ ns. MatchBool c.is_distinct-distinct.result (IsDistinct ns) (HasRepeat ns)) same c.is_distinct-distinct.ensures))
