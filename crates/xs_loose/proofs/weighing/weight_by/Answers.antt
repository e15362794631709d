use Rattle.std.proofs.Common.{arith}
use Rattle.xs_loose.specs.Parts.{part_items}
use Rattle.xs_loose.proofs.Stretches.{part_stretch, part_long}
use Rattle.xs_loose.proofs.Stepping.{part_none, part_stepped, part_done}
use Rattle.xs_loose.proofs.weighing.weight_by.Goals as goal

pub items-init : goal.items-init
items-init c = record {
  within = c.requires.part.order;
  summed = part_none c.args.g.now c.args.part.now.start (part_items c.args.g.now c.args.part.now) c.requires.part.level;
}

pub items-smaller : goal.items-smaller
items-smaller c =
    let g = c.args.g.now in
    let part = c.args.part.now in
    let is = part_items g part in
    let long = part_long g part c.requires.part in
    let stepped = part_stepped g part.rule part.start c.items.place c.part_step-count.result.1 c.items.sum c.part_step-count.result.0 c.capped-sum.result is (part_stretch g part c.requires.part) c.items.invariant.summed (omega (arith, long, c.items-test.true)) c.part_step-count.ensures (omega (arith, c.capped-sum.ensures, c.saturating_add.ensures)) in
    omega (arith, stepped.1, stepped.2, long, c.items-test.true)

pub items-preserved : goal.items-preserved
items-preserved c =
    let g = c.args.g.now in
    let part = c.args.part.now in
    let is = part_items g part in
    let long = part_long g part c.requires.part in
    let stepped = part_stepped g part.rule part.start c.items.place c.part_step-count.result.1 c.items.sum c.part_step-count.result.0 c.capped-sum.result is (part_stretch g part c.requires.part) c.items.invariant.summed (omega (arith, long, c.items-test.true)) c.part_step-count.ensures (omega (arith, c.capped-sum.ensures, c.saturating_add.ensures)) in
    record { within = omega (arith, stepped.2, long); summed = stepped.0 }

pub returns : goal.returns
returns c =
    let g = c.args.g.now in
    let part = c.args.part.now in
    part_done g part.start c.items.place c.items.sum (part_items g part) c.items.invariant.summed (omega (arith, part_long g part c.requires.part, c.items-test.false))
