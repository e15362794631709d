use Rattle.std.proofs.Common.{◌≡◌, ◌++◌, ◌∷◌, [], ℕ, List, sym, ◌∙◌, ap, subst}
use Rattle.xs_listing.specs.declared.spelt.SpeltPart.{SpeltPart}
use Rattle.xs_listing.specs.declared.spelt.SpeltPart.TheVariants.{Node}
use Rattle.xs_listing.specs.Numbered.{IsSpeltBy}
use Rattle.xs_listing.proofs.Spelling.{left_there, spelt_by}
use Rattle.xs_listing.proofs.list.spell.Goals as goal

pub write_front-requires-clause-front : goal.write_front-requires-clause-front
write_front-requires-clause-front c =
    let chosen = c.root_choice-chosen in
    left_there c.args.source.now c.requires.source c.args.root c.requires.root c.args.number chosen.ensures.0 chosen.result chosen.ensures.1

pub returns : goal.returns
returns c =
    let s = c.args.source.now in
    let x = c.root_choice-chosen.result in
    let ch = c.root_choice-chosen.ensures in
    let parts = c.in_ok-written.written.parts.items in
    let places = c.in_ok-written.written.places.items in
    let new : c.from_vec.result ≡ parts ++ Node x.alt.rule places ∷ [] = c.from_vec.ensures ∙ (c.in_ok-push.ensures.items ∙ ap (λ (l : List ℕ). parts ++ Node x.alt.rule l ∷ []) (c.in_ok-kids.ensures ∙ c.deref.ensures.value)) in
    subst (λ (l : List SpeltPart). IsSpeltBy s c.args.root c.args.number l) (sym new) (spelt_by s c.requires.source c.args.root c.requires.root c.args.number ch.0 x ch.1 parts places c.in_ok-written.ensures)
