use Rattle.std.proofs.Common.{◌+◌, ◌∙◌, ◌++◌, ◌<◌, List, length, get_or, ap, sym, subst, arith}
use Rattle.std.proofs.lemmas.List.Elements.{Contains-get_or}
use Rattle.xs_chart.specs.declared.item.Item.{Item}
use Rattle.xs_gram.specs.Places.{all_places}
use Rattle.xs_earley.specs.declared.begun.Begun.{Begun}
use Rattle.xs_earley.specs.Arriving.{item_due, item_begun}
use Rattle.xs_earley.specs.Masks.{AreMasks}
use Rattle.xs_earley.proofs.Arrivals.{gathered_push}
use Rattle.xs_earley.proofs.Maskings.{idle_past, nothing_more}
use Rattle.xs_earley.proofs.arrive.arrive_all.Goals as goal

pub items-init : goal.items-init
items-init c =
    let g = c.args.g.now in
    let f = c.args.facts.now in
    let s = c.args.symbol in
    let first = c.next_by_mask-at in
    let known = subst (AreMasks g f (length (all_places g))) (sym c.as_slice-masks.ensures.value) c.requires.masks in
    let past = idle_past g f c.as_slice-masks.result.now known s c.args.atom c.requires.atom c.args.items.now c.requires.states 0 first.result first.ensures.from first.ensures.within first.ensures.idle in
    record {
      within = first.ensures.within;
      due = nothing_more c.args.due.now.items _ past.0;
      fresh = nothing_more c.args.fresh.now.items _ past.1;
    }

pub arrive-requires-clause-state : goal.arrive-requires-clause-state
arrive-requires-clause-state c =
    let d : Item = record { state = 0; origin = 0 } in
    c.requires.states (get_or c.args.items.now c.items.at d) (Contains-get_or c.args.items.now c.items.at d (omega arith))

pub next_by_mask-at-requires-in-items-clause-states : goal.next_by_mask-at-requires-in-items-clause-states
next_by_mask-at-requires-in-items-clause-states c item there =
    subst (λ n. item.state < n) (sym (ap length c.as_slice-masks.ensures.value ∙ c.requires.masks.counted)) (c.requires.states item there)

pub items-preserved : goal.items-preserved
items-preserved c =
    let g = c.args.g.now in
    let f = c.args.facts.now in
    let s = c.args.symbol in
    let xs = c.args.items.now in
    let at = c.items.at in
    let d : Item = record { state = 0; origin = 0 } in
    let next = c.next_by_mask-at-in-items in
    let known = subst (AreMasks g f (length (all_places g))) (sym c.as_slice-masks.ensures.value) c.requires.masks in
    let past = idle_past g f c.as_slice-masks.result.now known s c.args.atom c.requires.atom xs c.requires.states (at + 1) next.result next.ensures.from next.ensures.within next.ensures.idle in
    record {
      within = next.ensures.within;
      due = gathered_push (item_due g f s) xs at d c.args.due.now.items c.items.due.items c.arrive.new.due.items (omega arith) c.items.invariant.due c.in_ok-arrive.ensures.due
          ∙ ap (λ (l : List Item). c.args.due.now.items ++ l) (sym past.0);
      fresh = gathered_push (item_begun f s) xs at d c.args.fresh.now.items c.items.fresh.items c.arrive.new.fresh.items (omega arith) c.items.invariant.fresh c.in_ok-arrive.ensures.fresh
          ∙ ap (λ (l : List Begun). c.args.fresh.now.items ++ l) (sym past.1);
    }
