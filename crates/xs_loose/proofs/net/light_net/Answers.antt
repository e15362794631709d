use Rattle.std.proofs.Common.{◌≡◌, ℕ, suc, ◌+◌, List, subst, sym, arith, None}
use Rattle.xs_auto.specs.Nets.{states}
use Rattle.xs_loose.specs.declared.site.Task.{Task}
use Rattle.xs_loose.specs.Making.{IsBlank}
use Rattle.xs_loose.specs.Parts.{part_items}
use Rattle.xs_loose.specs.Walking.{AreAllLaid}
use Rattle.xs_loose.specs.Work.{AreTasks}
use Rattle.xs_loose.proofs.Finishing.{part_room, net_numbered}
use Rattle.xs_loose.proofs.net.light_net.Goals as goal

pub lay_items-requires-clause-room : goal.lay_items-requires-clause-room
lay_items-requires-clause-room c = part_room c.args.site.now.g.now c.requires.site.built c.args.part c.requires.part c.args.weight (states c.in_ok-net.net) c.requires.weighs c.requires.light (omega (arith, c.in_ok-net.ensures.blank.states))

pub lay_tasks-requires-clause-tasks : goal.lay_tasks-requires-clause-tasks
lay_tasks-requires-clause-tasks c =
    let g = c.args.site.now.g.now in
    let weights = c.args.site.now.tables.now.weights in
    let none : AreTasks g weights (states c.in_ok-net.net) c.new-tasks.result.items = subst (λ (ts : List Task). AreTasks g weights (states c.in_ok-net.net) ts) (sym c.new-tasks.ensures.items) (λ t h. absurd (omega (arith, h.1))) in
    subst (λ (n : ℕ). AreTasks g weights n c.lay_items.new.into.tasks.items) (sym c.in_ok-last.ensures.done.gains.states) (c.in_ok-last.ensures.done.tasks none)

pub returns-clause-net : goal.returns-clause-net
returns-clause-net c =
    let g = c.args.site.now.g.now in
    let weights = c.args.site.now.tables.now.weights in
    let count : c.args.weight + 1 ≡ suc c.args.weight = omega arith in
    let all = subst (λ (ts : List Task). AreAllLaid g weights None c.args.part.rule c.args.part.start (part_items g c.args.part) (record { before = 0; at = 1 }) c.in_ok-net.net ts c.lay_items.new.into.net c.lay_items.new.into.tasks.items c.in_ok-last.last) c.new-tasks.ensures.items c.in_ok-last.ensures in
    rw c.in_ok-done.ensures (net_numbered g c.requires.site.built weights c.args.part c.requires.part c.args.weight c.requires.weighs c.requires.light c.in_ok-net.net c.lay_items.new.into.net c.lay_tasks.new.into.net c.set_final.new.self c.lay_items.new.into.tasks.items c.in_ok-last.last (subst (λ (n : ℕ). IsBlank n c.in_ok-net.net) count c.in_ok-net.ensures.blank) c.in_ok-net.ensures.start all c.in_ok-lay_tasks.ensures c.in_ok-set_final.ensures.ok)
