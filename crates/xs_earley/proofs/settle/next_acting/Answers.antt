use Rattle.std.proofs.Common.{get_or, arith}
use Rattle.std.proofs.lemmas.List.Elements.{Contains-get_or}
use Rattle.xs_chart.specs.declared.item.Item.{Item}
use Rattle.xs_earley.proofs.settle.next_acting.Goals as goal

pub bounds-acts-items : goal.bounds-acts-items
bounds-acts-items c =
    let d : Item = record { state = 0; origin = 0 } in
    c.requires.states (get_or c.args.items.now c.items.at d) (Contains-get_or c.args.items.now c.items.at d (omega arith))
