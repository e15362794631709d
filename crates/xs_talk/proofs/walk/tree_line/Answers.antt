use Rattle.std.proofs.Common.{◌-◌, sym, ◌∙◌, ap, rules, arith}
use Rattle.std.specs.Prelude.{slice_get}
use Rattle.xs_talk.proofs.Ending.{done_less, steps_left}
use Rattle.xs_talk.proofs.Slots.{pair_has_slot_names}
use Rattle.xs_talk.proofs.Walking.{spelt_long, root_can, remains_first, remains_next, remains_none, next_can}
use Rattle.xs_talk.proofs.walk.tree_line.Goals as goal

pub at-root-requires : goal.at-root-requires
at-root-requires c =
    let long = spelt_long c.args.two.now c.args.doc.now c.args.tree.now c.requires.spelt in
    omega (arith, long, c.len.ensures)

pub push_part-requires : goal.push_part-requires
push_part-requires c =
    root_can c.args.two.now c.args.doc.now c.args.tree.now c.requires.spelt c.at-root.result.now
    (ap (λ n. slice_get c.args.tree.now (n - 1)) (sym c.len.ensures) ∙ c.at-root.ensures)

pub tasks-init : goal.tasks-init
tasks-init c =
    remains_first c.args.two.now c.args.doc.now c.args.tree.now (pair_has_slot_names c.see.ensures.pair.0 c.args.two.now c.see.ensures.pair.1 c.see.ensures.text.slots) c.at-root.result.now
    c.new-tasks.result.items c.push_part.new.tasks.items c.new-out.result c.push_part.new.out
    (ap (λ n. slice_get c.args.tree.now (n - 1)) (sym c.len.ensures) ∙ c.at-root.ensures)
    c.new-tasks.ensures.items c.new-out.ensures c.in_ok-push_part.ensures

pub perform-requires : goal.perform-requires
perform-requires c =
    next_can c.args.two.now c.args.doc.now c.args.tree.now (pair_has_slot_names c.see.ensures.pair.0 c.args.two.now c.see.ensures.pair.1 c.see.ensures.text.slots) c.requires.spelt
    c.tasks.tasks.items c.pop.new.self.items c.in-Some.task c.tasks.out c.tasks.invariant c.in-Some.ensures.items

pub tasks-preserved : goal.tasks-preserved
tasks-preserved c =
    remains_next c.args.two.now c.args.doc.now c.args.tree.now (pair_has_slot_names c.see.ensures.pair.0 c.args.two.now c.see.ensures.pair.1 c.see.ensures.text.slots)
    c.tasks.tasks.items c.pop.new.self.items c.perform.new.tasks.items c.in-Some.task c.tasks.out c.perform.new.out
    c.tasks.invariant c.in-Some.ensures.items c.in_ok-perform.ensures

pub tasks-smaller : goal.tasks-smaller
tasks-smaller c =
    let two = c.args.two.now in
    let tree = c.args.tree.now in
    let less = done_less two tree c.args.doc.now c.requires.spelt.2.in_order c.in-Some.task c.pop.new.self.items c.perform.new.tasks.items c.tasks.out c.perform.new.out c.in_ok-perform.ensures in
    omega (arith, less, ap (steps_left two tree) c.in-Some.ensures.items)

pub returns : goal.returns
returns c =
    remains_none c.args.two.now c.args.doc.now c.args.tree.now c.tasks.tasks.items c.tasks.out c.push.new.self
    c.tasks.invariant (search rules) c.in_ok-push.ensures.ok
