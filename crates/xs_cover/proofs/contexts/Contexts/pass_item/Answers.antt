use Rattle.std.proofs.Common.{◌≡◌, ◌+◌, ◌-◌, List, ℕ, refl, subst, ap, arith}
use Rattle.xs_gram.specs.declared.parts.GItem.TheVariants.{Non}
use Rattle.xs_gram.specs.Grammar.{ItemAt}
use Rattle.xs_cover.specs.Sizes.{capped}
use Rattle.xs_cover.specs.Tables.{at}
use Rattle.xs_cover.proofs.Stepping.{step_into}
use Rattle.xs_cover.proofs.contexts.Contexts.pass_item.Goals as goal

pub lower-requires-clause-step : goal.lower-requires-clause-step
lower-requires-clause-step c =
    let g = c.args.two.now.text in
    let f = c.args.from in
    let non = c.in-Non.non in
    let item : ItemAt g f.rule c.requires.item.0 (Non non c.in-Non.slot) = subst (λ i. ItemAt g f.rule c.requires.item.0 i) c.in-Non.is c.requires.item.1 in
    let costs : c.sum_of.result ≡ capped (f.around + (f.cost - at c.args.prices.now.nons.items non)) = omega (arith, c.sum_of.ensures, c.saturating_sub-rest.ensures, c.number_at.ensures, ap (λ (l : List ℕ). at l non) c.deref.ensures.value) in
    step_into g c.args.two.now.xml c.args.prices.now c.args.self.now.steps.items f c.requires.item.0 non c.in-Non.slot c.sum_of.result _ c.requires.sound.text c.requires.passing item refl costs
