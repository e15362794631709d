use Rattle.std.proofs.Common.{◌≡◌, ◌∙◌, ℕ, List, subst, sym}
use Rattle.std.specs.declared.option.Option.{Option}
use Rattle.xs_sheet.specs.declared.unit.Unit.{Unit}
use Rattle.xs_pair.specs.declared.ill.IllRule.TheVariants.{FenceOpen}
use Rattle.xs_pair.specs.Balance.{AreApart}
use Rattle.xs_pair.specs.Fences.{FenceFails, IsOpen, fence_pairs}
use Rattle.xs_pair.specs.Units.{unit_line}
use Rattle.xs_pair.specs.Verdict.{IsFirstLine, IsLineWhere}
use Rattle.xs_pair.proofs.Apart.{pairs_apart}
use Rattle.xs_pair.proofs.FenceOrders.{before_open, none_at_all}
use Rattle.xs_pair.proofs.fence_rules.ill_of_open.Goals as goal

first_open : (us : List Unit) (shown fs : List (ℕ × ℕ)) (least : Option ℕ) → shown ≡ fs → fs ≡ fence_pairs us → IsFirstLine (IsLineWhere (λ k u. IsOpen shown u) unit_line us) least → IsFirstLine (FenceFails us FenceOpen) least
first_open us shown fs least same is first = subst (λ (ps : List (ℕ × ℕ)). IsFirstLine (IsLineWhere (λ (k : ℕ) (u : Unit). IsOpen ps u) unit_line us) least) (same ∙ is) first

pub least_open-requires : goal.least_open-requires
least_open-requires c = subst AreApart (sym (c.deref.ensures.value ∙ c.in_ok-pairs.ensures)) (pairs_apart c.args.units.now c.requires.used)

pub returns-in-Some : goal.returns-in-Some
returns-in-Some c =
    let us = c.args.units.now in
    let first = first_open us c.deref.result.now c.in_ok-pairs.pairs.items c.in_ok-least.least c.deref.ensures.value c.in_ok-pairs.ensures c.in_ok-least.ensures in
    record { line = subst (λ (o : Option ℕ). IsFirstLine (FenceFails us FenceOpen) o) c.in-Some.is first; first = before_open us c.requires.used c.requires.inside }

pub returns : goal.returns
returns c =
    let us = c.args.units.now in
    let first = first_open us c.deref.result.now c.in_ok-pairs.pairs.items c.in_ok-least.least c.deref.ensures.value c.in_ok-pairs.ensures c.in_ok-least.ensures in
    none_at_all us c.requires.used c.requires.inside (subst (λ (o : Option ℕ). IsFirstLine (FenceFails us FenceOpen) o) c.in-None.is first)
