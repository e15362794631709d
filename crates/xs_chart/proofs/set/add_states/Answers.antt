use Rattle.std.proofs.Common.{◌<◌, ◌++◌, ◌∷◌, ◌∙◌, [], List, length, get_or, take, sym, ap, subst, arith, append_assoc}
use Rattle.std.specs.Prelude.{Contains}
use Rattle.std.proofs.lemmas.List.{map_more}
use Rattle.xs_chart.specs.declared.item.Item.{Item}
use Rattle.xs_chart.specs.Charted.{item_from, items_from}
use Rattle.xs_chart.proofs.Different.{added_absent}
use Rattle.xs_chart.proofs.States.{next_absent}
use Rattle.xs_chart.proofs.set.add_states.Goals as goal

pub states-preserved : goal.states-preserved
states-preserved c =
    let old = c.args.set.now.keys in
    let states = c.args.states.now in
    let origin = c.args.origin in
    let n = c.states.state-index in
    let lt : n < length states = omega arith in
    let now = c.states.set.keys in
    let item = item_from origin (get_or states n 0) in
    let is = c.states.invariant.items in
    let absent = λ (h : Contains now item). next_absent old origin states n 0 lt c.requires.states c.requires.absent (subst (λ (l : List Item). Contains l item) is h) in
    let more = added_absent now c.add.new.set.keys item c.in_ok-add.field-0 absent c.in_ok-add.ensures.added c.in_ok-add.ensures.items in
    record {
      items = more ∙ ap (λ (l : List Item). l ++ item ∷ []) is ∙ append_assoc old (items_from origin (take n states)) (item ∷ []) ∙ ap (λ (l : List Item). old ++ l) (sym (map_more (item_from origin) states n 0 lt));
      different = c.in_ok-add.ensures.different;
    }

pub returns-in_err-add-clause-kept : goal.returns-in_err-add-clause-kept
returns-in_err-add-clause-kept c = (items_from c.args.origin (take c.states.state-index c.args.states.now), c.in_err-add.ensures.err ∙ c.states.invariant.items)
