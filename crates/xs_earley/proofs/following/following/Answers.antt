use Rattle.std.proofs.Common.{◌≡◌, ◌↔◌, ◌++◌, [], List, ℕ, ◌∙◌, ap, subst}
use Rattle.std.specs.Prelude.{Contains, slice_index_or}
use Rattle.xs_class.specs.Classes.{Has}
use Rattle.xs_chart.specs.declared.item.Item.{Item}
use Rattle.xs_chart_laws.specs.Charts.{set_at}
use Rattle.xs_earley.specs.declared.begun.Begun.{Begun}
use Rattle.xs_earley.specs.Arriving.{gathered}
use Rattle.xs_earley.specs.Following.{item_next, more_next}
use Rattle.xs_earley.proofs.Followings.{following_goes, item_there, begun_there}
use Rattle.xs_earley.proofs.following.following.Goals as goal

pub add_items-requires-clause-states : goal.add_items-requires-clause-states
add_items-requires-clause-states c item h =
    item_there c.args.g.now c.args.word.now c.args.facts.now c.args.chart.now c.args.begun.now c.args.g.now.nons c.requires.run c.args.at item (subst (λ (l : List Item). Contains l item) c.items.ensures h)

pub add_rests-requires-clause-states : goal.add_rests-requires-clause-states
add_rests-requires-clause-states c b h = begun_there c.args.g.now c.args.word.now c.args.facts.now c.args.chart.now c.args.begun.now c.args.g.now.nons c.requires.run c.args.at c.requires.at b (subst (λ (l : List Begun). Contains l b) c.list.ensures h)

pub returns : goal.returns
returns c s =
    let g = c.args.g.now in
    let f = c.args.facts.now in
    let w = c.args.word.now in
    let at = c.args.at in
    let set = set_at c.args.chart.now.sets at in
    let words = slice_index_or c.args.begun.now at [] in
    let first : c.add_items.new.ranges.items ≡ gathered (item_next g f) set = c.in_ok-add_items.ensures ∙ ap (λ (l : List (ℕ × ℕ)). l ++ gathered (item_next g f) c.items.result.now) c.new-ranges.ensures.items ∙ ap (gathered (item_next g f)) c.items.ensures in
    let all : c.add_rests.new.ranges.items ≡ gathered (item_next g f) set ++ gathered (more_next f) words = c.in_ok-add_rests.ensures ∙ ap (λ (l : List (ℕ × ℕ)). l ++ gathered (more_next f) c.list.result.now) first ∙ ap (λ (l : List Begun). gathered (item_next g f) set ++ gathered (more_next f) l) c.list.ensures in
    let goes = following_goes g w f c.args.chart.now c.args.begun.now g.nons c.requires.run at c.requires.at s in
    let same = subst (λ (l : List (ℕ × ℕ)). Has c.in_ok-class.class s ↔ Has l s) (c.deref.ensures.value ∙ all) (c.in_ok-class.ensures s) in
    ((λ h. goes.0 (same.0 h)), (λ h. same.1 (goes.1 h)))
