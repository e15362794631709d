use Rattle.std.proofs.Common.{◌≡◌, List, [], ◌∷◌, ◌++◌, set, replicate, refl, sym, subst, ap, ◌∙◌}
use Rattle.xs_cover.specs.declared.contexts.Step.{Step}
use Rattle.xs_cover.specs.Steps.{HaveSteps}
use Rattle.xs_cover.proofs.Stepping.{have_first}
use Rattle.xs_cover.proofs.contexts.Contexts.new.Goals as goal

pub returns : goal.returns
returns c = λ h.
    let g = c.args.g.now in
    let s : Step = record { non = c.start-start.result; rule = 0; slot = 0; parent = 0; cost = 0 } in
    let arounds = c.in_ok-arounds.arounds.items in
    let far : arounds ≡ replicate g.nons 1000000001 = c.in_ok-arounds.ensures.items_if_clones_equal (λ y e. e) ∙ ap (λ k. replicate k 1000000001) c.nons-count.ensures in
    let none : c.in_ok-places.places.items ≡ replicate g.nons 0 = c.in_ok-places.ensures.items_if_clones_equal (λ y e. e) ∙ ap (λ k. replicate k 0) c.nons-count.ensures in
    let one : c.push.new.self.items ≡ s ∷ [] = c.in_ok-push.ensures.items ∙ ap (λ (l : List Step). l ++ s ∷ []) c.new-steps.ensures.items in
    subst (λ k. HaveSteps g h c.args.prices.now (set arounds k 0) c.in_ok-places.places.items c.push.new.self.items) (sym c.start-start.ensures)
    (have_first g h c.args.prices.now arounds c.in_ok-places.places.items c.push.new.self.items s c.requires far none one c.start-start.ensures refl)
