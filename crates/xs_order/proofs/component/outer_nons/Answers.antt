use Rattle.std.proofs.Common.{arith, ap, length}
use Rattle.xs_gram.specs.Fences.{spread}
use Rattle.xs_order.proofs.Outer.{nons_end}
use Rattle.xs_order.proofs.component.outer_nons.Goals as goal

pub returns : goal.returns
returns c =
    let is = spread c.args.g.now c.args.rule in
    nons_end c.args.g.now.fences is c.items.next c.items.nons (omega (arith, ap length c.spread-items.ensures.items, c.items.invariant.later, c.items-test.false, c.items.auto.place-end)) c.items.invariant.so_far
