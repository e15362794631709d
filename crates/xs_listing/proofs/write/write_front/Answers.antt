use Rattle.std.proofs.Common.{ap, arith, rules}
use Rattle.xs_listing.specs.Writing.{work_left}
use Rattle.xs_listing.proofs.Ending.{done_less}
use Rattle.xs_listing.proofs.Walking.{remains_can, remains_first, remains_next, remains_none}
use Rattle.xs_listing.proofs.write.write_front.Goals as goal

pub tasks-init : goal.tasks-init
tasks-init c =
    remains_first c.args.source.now c.requires.source c.args.front c.args.number c.in_ok-tasks.tasks.items
    c.in_ok-parts.parts.items c.new.result.items c.requires.front c.requires.within c.in_ok-tasks.ensures
    c.in_ok-parts.ensures.items c.new.ensures.items

pub perform-requires-clause-can : goal.perform-requires-clause-can
perform-requires-clause-can c =
    remains_can c.args.source.now c.requires.source c.args.front c.args.number c.tasks.tasks.items
    c.pop.new.self.items c.in-Some.task c.tasks.written.parts.items c.tasks.written.places.items c.requires.front
    c.requires.within c.tasks.invariant c.in-Some.ensures.items

pub tasks-preserved : goal.tasks-preserved
tasks-preserved c =
    remains_next c.args.source.now c.requires.source c.args.front c.args.number c.tasks.tasks.items
    c.pop.new.self.items c.perform.new.tasks.items c.in-Some.task c.tasks.written.parts.items
    c.perform.new.written.parts.items c.tasks.written.places.items c.perform.new.written.places.items
    c.tasks.invariant c.in-Some.ensures.items c.in_ok-perform.ensures

pub tasks-smaller : goal.tasks-smaller
tasks-smaller c =
    let s = c.args.source.now in
    let can = remains_can s c.requires.source c.args.front c.args.number c.tasks.tasks.items c.pop.new.self.items c.in-Some.task c.tasks.written.parts.items c.tasks.written.places.items c.requires.front c.requires.within c.tasks.invariant c.in-Some.ensures.items in
    let less = done_less s c.requires.source c.in-Some.task c.pop.new.self.items c.perform.new.tasks.items c.tasks.written.parts.items c.perform.new.written.parts.items c.tasks.written.places.items c.perform.new.written.places.items can c.in_ok-perform.ensures in
    omega (arith, less, ap work_left c.in-Some.ensures.items)

pub returns : goal.returns
returns c u at =
    remains_none c.args.source.now c.requires.source c.args.front c.args.number c.tasks.tasks.items
    c.tasks.written.parts.items c.tasks.written.places.items u c.tasks.invariant (search rules) at
