use Rattle.xs_chart.specs.declared.item.Item.{Item}
use Rattle.xs_earley.proofs.Additions.{added_puts, added_there, adds_one}
use Rattle.xs_earley.proofs.adding.put.Goals as goal

pub returns-clause-adds : goal.returns-clause-adds
returns-clause-adds c g place num =
    let item : Item = record { state = c.args.state; origin = c.args.origin } in
    adds_one g c.args.at place c.args.state c.args.origin c.args.chart.now.sets c.add.new.self.sets num
    (added_puts c.args.chart.now c.add.new.self c.args.at item c.in_ok-add.field-0 c.requires.last c.in_ok-add.ensures.last)
    (added_there c.args.chart.now c.add.new.self c.args.at item c.in_ok-add.field-0 c.requires.last c.in_ok-add.ensures.last c.in_ok-add.ensures.added)
