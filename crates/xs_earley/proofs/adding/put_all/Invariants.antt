use Rattle.std.proofs.Common.{◌≡◌, take}
use Rattle.std.specs.Prelude.{Contains}
use Rattle.xs_chart.specs.declared.item.Item.{Item}
use Rattle.xs_chart.specs.Charted.{items_of, before_last}
use Rattle.xs_earley.specs.Adding.{Puts}
use Rattle.xs_earley.proofs.adding.put_all.Given as goal

abbrev pub invariant-items : goal.invariant-items
invariant-items l = record {
  puts : Puts l.at (Contains (take l.item-index l.items)) l.initial.chart.sets l.chart.sets;
  there : (item : Item) → Contains (take l.item-index l.items) item → Contains (items_of l.chart l.at) item;
  waits : l.chart.waits ≡ l.initial.chart.waits;
  before : before_last l.chart ≡ before_last l.initial.chart;
}
