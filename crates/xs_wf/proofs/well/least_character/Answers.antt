use Rattle.std.proofs.Common.{◌≡◌, ◌⊎◌, ◌∙◌, subst, List}
use Rattle.std.specs.Prelude.{IfOk}
use Rattle.xs_sheet.specs.declared.unit.Unit.{Unit}
use Rattle.xs_pair.specs.declared.production.Rule.{Rule}
use Rattle.xs_pair.specs.Listing.{rules_of}
use Rattle.xs_pair.specs.Units.{unit_line}
use Rattle.xs_pair.specs.Verdict.{IsFirstLine, IsLineWhere}
use Rattle.xs_wf.specs.Units.{IsStrangeUnit, IsStrangeRule}
use Rattle.xs_wf.proofs.well.least_character.Goals as goal

pub returns : goal.returns
returns c =
    let units = c.as_slice-units.result.now in
    let rules : c.deref.result.now ≡ rules_of units = c.deref.ensures.value ∙ c.in_ok-rules.ensures in
    subst (λ (us : List Unit). IfOk c.least_not_char.result (IsFirstLine (λ line. IsLineWhere (λ k u. IsStrangeUnit u) unit_line us line ⊎ IsLineWhere (λ k r. IsStrangeRule r) (λ (r : Rule). r.line) (rules_of us) line))) c.as_slice-units.ensures
    (subst (λ (rs : List Rule). IfOk c.least_not_char.result (IsFirstLine (λ line. IsLineWhere (λ k u. IsStrangeUnit u) unit_line units line ⊎ IsLineWhere (λ k r. IsStrangeRule r) (λ (r : Rule). r.line) rs line))) rules c.least_not_char.ensures)
