use Rattle.std.proofs.Common.{◌≡◌, ◌∙◌, ◌++◌, ◌∷◌, [], List, Some, ap, sym, subst, arith}
use Rattle.std.specs.declared.option.Option.{Option}
use Rattle.xs_sheet.specs.declared.unit.Unit.{Unit}
use Rattle.xs_sheet.specs.Grammar.{HaveRegexes}
use Rattle.xs_pair.specs.declared.ill.Ill.{Ill}
use Rattle.xs_pair.specs.Fences.{IsFenceIll}
use Rattle.xs_pair.specs.Upgrades.{fence_of}
use Rattle.xs_pair.proofs.Gaining.{regexes_added, tried_refused, left_over}
use Rattle.xs_pair.proofs.upgrading.try_pair.Goals as goal

pub ill_of-requires : goal.ill_of-requires
ill_of-requires c = subst (λ (us : List Unit). HaveRegexes us) (sym c.deref-2.ensures.value) (regexes_added c.args.line c.args.pair c.args.units.now.items c.push.new.self.items c.requires (c.in_ok-push.ensures.items ∙ ap (λ (u : Unit). c.args.units.now.items ++ u ∷ []) c.in_ok-fence.ensures))

pub returns-in-None-clause-regexes : goal.returns-in-None-clause-regexes
returns-in-None-clause-regexes c = regexes_added c.args.line c.args.pair c.args.units.now.items c.push.new.self.items c.requires (c.in_ok-push.ensures.items ∙ ap (λ (u : Unit). c.args.units.now.items ++ u ∷ []) c.in_ok-fence.ensures)

pub returns-in-Some-clause-tried : goal.returns-in-Some-clause-tried
returns-in-Some-clause-tried c =
    let pushed : c.push.new.self.items ≡ c.args.units.now.items ++ fence_of c.args.line c.args.pair ∷ [] = c.in_ok-push.ensures.items ∙ ap (λ (u : Unit). c.args.units.now.items ++ u ∷ []) c.in_ok-fence.ensures in
    let ill : IsFenceIll c.push.new.self.items (Some c.in-Some.field-0) = subst (λ (us : List Unit). IsFenceIll us (Some c.in-Some.field-0)) c.deref-2.ensures.value (subst (λ (o : Option Ill). IsFenceIll c.deref-2.result.now o) c.in-Some.is c.in_ok-ill.ensures) in
    tried_refused c.args.line c.args.pair c.args.units.now.items c.push.new.self.items c.pop.new.self.items c.in-Some.field-0 ill pushed (left_over c.args.units.now.items c.push.new.self.items c.pop.new.self.items (fence_of c.args.line c.args.pair) c.push.new.self.len pushed (omega (arith, c.push.new.self.ok)) c.pop.ensures.rest)
