use Rattle.std.proofs.Common.{◌-◌, refl, arith}
use Rattle.std.specs.BinaryHeap.{heap_items}
use Rattle.xs_cover.proofs.Holding.{holds_ready, is_ready, ready_on_push, ready_pushed, set_heavy, set_ready}
use Rattle.xs_cover.proofs.picks.Picks.add_ready.Goals as goal

pub returns-in_ok-push-clause-picks : goal.returns-in_ok-push-clause-picks
returns-in_ok-push-clause-picks c =
    let s = c.args.self.now in
    let g = c.args.two.now.text in
    let h = c.args.two.now.xml in
    let ready = is_ready g h s.prices.terms.items s.prices.nons.items s.forest c.args.rule c.rule_cost-cost.result c.requires.rule c.requires.past c.rule_cost-cost.ensures c.requires.dear c.if-cost-lt-MOST.true in
    holds_ready g h s.prices.terms.items s.prices.nons.items s.forest s.waiting.items (heap_items s.ready) c.requires.picks (1000000000 - c.rule_cost-cost.result, c.args.rule) (heap_items c.push.new.self) ready c.in_ok-push.ensures.permutation (c.in_ok-push.ensures.heap_order c.requires.picks.ordered)

pub returns-in_ok-push-clause-grown : goal.returns-in_ok-push-clause-grown
returns-in_ok-push-clause-grown c = record {
  prices = refl;
  waiting = λ n k w e. e;
  ready = λ e has. ready_on_push (heap_items c.args.self.now.ready) (heap_items c.push.new.self) (1000000000 - c.rule_cost-cost.result, c.args.rule) e c.in_ok-push.ensures.permutation has;
}

pub returns-in_ok-push-clause-set : goal.returns-in_ok-push-clause-set
returns-in_ok-push-clause-set c =
    let s = c.args.self.now in
    set_ready c.args.two.now.text c.args.two.now.xml s.prices.terms.items s.prices.nons.items s.forest c.args.rule c.rule_cost-cost.result c.requires.rule c.requires.past c.rule_cost-cost.ensures s.waiting.items (heap_items c.push.new.self) (1000000000 - c.rule_cost-cost.result) (ready_pushed (heap_items s.ready) (heap_items c.push.new.self) (1000000000 - c.rule_cost-cost.result, c.args.rule) c.in_ok-push.ensures.permutation)

pub returns-else-cost-lt-MOST-clause-set : goal.returns-else-cost-lt-MOST-clause-set
returns-else-cost-lt-MOST-clause-set c =
    let s = c.args.self.now in
    set_heavy c.args.two.now.text c.args.two.now.xml s.prices.terms.items s.prices.nons.items s.forest c.args.rule c.rule_cost-cost.result c.requires.rule c.requires.past c.rule_cost-cost.ensures s.waiting.items (heap_items s.ready) (c.requires.picks.some.have.low _) (omega arith)
