use Rattle.std.proofs.Common.{◌≡◌, ◌<◌, List, length, set, sym, subst, arith}
use Rattle.std.proofs.lemmas.List.{get_or_read}
use Rattle.xs_cover.specs.declared.contexts.Step.{Step}
use Rattle.xs_cover.specs.Steps.{HaveSteps}
use Rattle.xs_cover.specs.Tables.{at}
use Rattle.xs_cover.proofs.Stepping.{have_step}
use Rattle.xs_cover.proofs.contexts.Contexts.lower.Goals as goal

pub returns-clause-contexts : goal.returns-clause-contexts
returns-clause-contexts c =
    let self = c.args.self.now in
    let s = c.args.step in
    let g = c.args.two.now.text in
    let h = c.args.two.now.xml in
    let less : s.cost < at self.arounds.items s.non = omega (arith, c.if-index-step.false, get_or_read self.arounds.items s.non c.index.result.now (omega (arith, c.requires.non, c.requires.contexts.arounds_counted)) c.index.ensures 0) in
    let place : c.len-place.result ≡ length self.steps.items = omega (arith, c.len-place.ensures, self.steps.ok) in
    let new = have_step g h c.args.prices.now self.arounds.items self.places.items self.steps.items s c.requires.contexts c.requires.non c.requires.cost c.requires.step less in
    subst (λ k. HaveSteps g h c.args.prices.now (set self.arounds.items s.non s.cost) (set self.places.items s.non k) c.push.new.self.items) (sym place)
    (subst (λ (l : List Step). HaveSteps g h c.args.prices.now (set self.arounds.items s.non s.cost) (set self.places.items s.non (length self.steps.items)) l) (sym c.in_ok-push.ensures.items) new)
