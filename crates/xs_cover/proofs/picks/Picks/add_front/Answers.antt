use Rattle.std.specs.BinaryHeap.{heap_items}
use Rattle.std.proofs.lemmas.Result.{on_ok_weaker}
use Rattle.xs_cover.proofs.Holding.{holds_front, passed_front}
use Rattle.xs_cover.proofs.picks.Picks.add_front.Goals as goal

pub returns-clause-picks : goal.returns-clause-picks
returns-clause-picks c =
    let s = c.args.self.now in
    on_ok_weaker c.add.result (λ added. holds_front c.args.two.now.text c.args.two.now.xml s.prices.terms.items s.prices.nons.items s.forest s.waiting.items (heap_items s.ready) c.requires.picks c.args.rule c.args.dot c.args.item.now c.front_row.result c.item_row.result c.add.new.forest c.requires.item c.front_row.ensures c.item_row.ensures added) c.add.ensures

pub returns-clause-past : goal.returns-clause-past
returns-clause-past c =
    let s = c.args.self.now in
    on_ok_weaker c.add.result (λ added. passed_front c.args.two.now.text s.prices.nons.items s.forest c.add.new.forest c.args.rule c.args.dot c.args.item.now (record { rule = c.args.rule; left = c.front_row.result; right = c.item_row.result }) c.requires.past c.requires.item c.requires.known added) c.add.ensures
