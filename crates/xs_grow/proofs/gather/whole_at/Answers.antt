use Rattle.std.proofs.Common.{◌∷◌, ◌++◌, [], ◌∙◌, ap, sym, inl, inr, refl, true≢false}
use Rattle.xs_forest_laws.specs.declared.span.What.TheVariants.{Whole}
use Rattle.xs_forest_laws.specs.Forest.{key_at}
use Rattle.xs_grow.proofs.Gathering.{whole_one}
use Rattle.xs_grow.proofs.gather.whole_at.Goals as goal

pub returns-in_ok-push : goal.returns-in_ok-push
returns-in_ok-push c =
    let place = c.place-place.result in
    let old = c.args.candidates.now.items in
    whole_one c.args.g.now c.args.set c.args.item place old c.push.new.self.items c.place-place.ensures.listed (inl (c.is_end.ensures.0 c.if-is_end.true, c.in_ok-push.ensures.items ∙ ap (λ n. old ++ (key_at (Whole n) c.args.item.origin c.args.set, place.rule) ∷ []) c.non_of.ensures))

pub returns-else-is_end : goal.returns-else-is_end
returns-else-is_end c =
    let old = c.args.candidates.now.items in
    whole_one c.args.g.now c.args.set c.args.item c.place-place.result old old c.place-place.ensures.listed (inr ((λ h. true≢false (sym (c.is_end.ensures.1 h) ∙ c.if-is_end.false)), refl))
