use Rattle.std.proofs.Common.{◌≡◌, ◌<◌, ◌∙◌, suc, List, length, get_or, sym, subst, arith, rules}
use Rattle.std.specs.Prelude.{Contains}
use Rattle.std.proofs.lemmas.List.{take_more, take_all}
use Rattle.xs_chart.specs.declared.item.Item.{Item}
use Rattle.xs_earley.proofs.Additions.{added_puts, added_there, put_more, put_there}
use Rattle.xs_earley.proofs.adding.put_all.Goals as goal

pub items-preserved : goal.items-preserved
items-preserved c =
    let items = c.args.items.now in
    let n = c.items.item-index in
    let at = c.args.at in
    let d : Item = record { state = 0; origin = 0 } in
    let item = get_or items n d in
    let old = c.items.chart in
    let new = c.add.new.self in
    let lt : n < length items = omega arith in
    let last : length old.sets ≡ suc at = c.items.invariant.puts.counted ∙ c.requires.last in
    let more = take_more items n d lt in
    let puts = added_puts old new at item c.in_ok-add.field-0 last c.in_ok-add.ensures.last in
    let here = added_there old new at item c.in_ok-add.field-0 last c.in_ok-add.ensures.last c.in_ok-add.ensures.added in
    record {
      puts = put_more items n at item c.args.chart.now.sets old.sets new.sets more c.items.invariant.puts puts;
      there = put_there items n at item old.sets new.sets more c.items.invariant.there puts here;
      waits = search rules;
      before = c.add.ensures.before ∙ c.items.invariant.before;
    }

pub returns-clause-there : goal.returns-clause-there
returns-clause-there c item h =
    let all = take_all c.items.item-index c.args.items.now (omega arith) in
    c.items.invariant.there item (subst (λ (l : List Item). Contains l item) (sym all) h)
