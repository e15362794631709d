use Rattle.std.proofs.Common.{◌≡◌, ◌∙◌, ℕ, List, subst}
use Rattle.std.specs.declared.option.Option.{Option}
use Rattle.xs_sheet.specs.declared.unit.Unit.{Unit}
use Rattle.xs_pair.specs.declared.ill.IllRule.TheVariants.{FenceInside}
use Rattle.xs_pair.specs.Fences.{FenceFails, IsInside, fence_letters}
use Rattle.xs_pair.specs.Units.{unit_line}
use Rattle.xs_pair.specs.Verdict.{IsFirstLine, IsLineWhere}
use Rattle.xs_pair.proofs.FenceOrders.{before_inside}
use Rattle.xs_pair.proofs.fence_rules.ill_of_inside.Goals as goal

first_inside : (us : List Unit) (shown letters : List ℕ) (least : Option ℕ) → shown ≡ letters → letters ≡ fence_letters us → IsFirstLine (IsLineWhere (λ k u. IsInside shown u) unit_line us) least → IsFirstLine (FenceFails us FenceInside) least
first_inside us shown letters least same is first = subst (λ (cs : List ℕ). IsFirstLine (IsLineWhere (λ (k : ℕ) (u : Unit). IsInside cs u) unit_line us) least) (same ∙ is) first

pub returns-in-Some : goal.returns-in-Some
returns-in-Some c =
    let us = c.args.units.now in
    let first = first_inside us c.deref.result.now c.in_ok-letters.letters.items c.least_inside-least.result c.deref.ensures.value c.in_ok-letters.ensures c.least_inside-least.ensures in
    record { line = subst (λ (o : Option ℕ). IsFirstLine (FenceFails us FenceInside) o) c.in-Some.is first; first = before_inside us c.requires.used }

pub ill_of_open-requires-clause-inside : goal.ill_of_open-requires-clause-inside
ill_of_open-requires-clause-inside c =
    let us = c.args.units.now in
    let first = first_inside us c.deref.result.now c.in_ok-letters.letters.items c.least_inside-least.result c.deref.ensures.value c.in_ok-letters.ensures c.least_inside-least.ensures in
    subst (λ (o : Option ℕ). IsFirstLine (FenceFails us FenceInside) o) c.in-None.is first
