use Rattle.std.proofs.Common.{◌≡◌, ℕ, subst, arith}
use Rattle.xs_auto.specs.Nets.{states}
use Rattle.xs_loose.specs.Parts.{part_items}
use Rattle.xs_loose.proofs.Going.{Gone, gone_none, gone_more, gone_done, gone_at}
use Rattle.xs_loose.proofs.Counting.{groups_few}
use Rattle.xs_loose.proofs.Numbering.{number_low}
use Rattle.xs_loose.proofs.Pushing.{element_is}
use Rattle.xs_loose.proofs.Stretches.{part_stretch, part_long}
use Rattle.xs_loose.proofs.site.Walk.lay_items.Goals as goal

pub items-init : goal.items-init
items-init c =
    let g = c.args.self.now.site.now.g.now in
    let part = c.args.part in
    record {
      later = omega arith;
      within = c.requires.part.order;
      number = omega (arith, element_is c.args.self.now.site.now.tables.now.groups part.rule c.at-number.result.now 0 c.at-number.ensures, c.requires.site.tables.groups.each part.rule c.requires.part.rule);
      low = c.requires.before;
      gone = gone_none g c.args.self.now.site.now.tables.now.weights c.args.self.now.home part.rule part.start (part_items g part) c.args.spot (states c.args.into.now.net) c.args.into.now.net c.args.into.now.tasks.items c.requires.part.level c.requires.room;
    }

pub after_place-number-requires-clause-low : goal.after_place-number-requires-clause-low
after_place-number-requires-clause-low c = omega (arith, c.items.invariant.number, groups_few c.args.self.now.site.now.g.now c.requires.site.built, number_low c.args.self.now.site.now.g.now c.args.part.rule c.items.place c.requires.part.rule)

pub lay_next-requires-clause-room : goal.lay_next-requires-clause-room
lay_next-requires-clause-room c =
    let g = c.args.self.now.site.now.g.now in
    let part = c.args.part in
    let place : c.items.next.place ≡ c.items.place = omega (arith, c.items.invariant.later, c.if-place-next.false) in
    let long = part_long g part c.requires.part in
    gone_at g c.args.self.now.site.now.tables.now.weights c.args.self.now.home part.rule part.start (part_items g part) c.args.spot c.args.into.now.net c.args.into.now.tasks.items c.items.place c.items.next.place c.items.next.spot c.items.into.net c.items.into.tasks.items place (part_stretch g part c.requires.part) (omega (arith, long, c.items-test.true)) c.items.invariant.gone

pub items-preserved : goal.items-preserved
items-preserved c =
    let g = c.args.self.now.site.now.g.now in
    let part = c.args.part in
    let weights = c.args.self.now.site.now.tables.now.weights in
    let place : c.items.next.place ≡ c.items.place = omega (arith, c.items.invariant.later, c.if-place-next.false) in
    let long = part_long g part c.requires.part in
    let gone : Gone g weights c.args.self.now.home part.rule part.start (part_items g part) c.args.spot (states c.args.into.now.net) c.items.place c.items.next.spot c.args.into.now.net c.args.into.now.tasks.items c.items.into.net c.items.into.tasks.items = subst (λ (x : ℕ). Gone g weights c.args.self.now.home part.rule part.start (part_items g part) c.args.spot (states c.args.into.now.net) x c.items.next.spot c.args.into.now.net c.args.into.now.tasks.items c.items.into.net c.items.into.tasks.items) place c.items.invariant.gone in
    let more = gone_more g weights c.args.self.now.home part.rule part.start (part_items g part) c.args.spot (states c.args.into.now.net) c.args.into.now.net c.args.into.now.tasks.items c.items.place c.items.next.spot c.items.into.net c.lay_next.new.into.net c.items.into.tasks.items c.lay_next.new.into.tasks.items c.in_ok-next.next (part_stretch g part c.requires.part) (omega (arith, long, c.items-test.true)) gone c.in_ok-next.ensures.stepped in
    record {
      later = omega (arith, more.1);
      within = omega (arith, more.2, long);
      number = c.after_place-number.ensures;
      low = omega (arith, c.in_ok-next.ensures.low, c.items.invariant.gone.done.gains.states);
      gone = more.0;
    }

pub returns : goal.returns
returns c =
    let g = c.args.self.now.site.now.g.now in
    let part = c.args.part in
    gone_done g c.args.self.now.site.now.tables.now.weights c.args.self.now.home part.rule part.start (part_items g part) c.args.spot (states c.args.into.now.net) c.args.into.now.net c.args.into.now.tasks.items c.items.next.place c.items.next.spot c.items.into.net c.items.into.tasks.items c.items.invariant.low (omega (arith, part_long g part c.requires.part, c.items.invariant.later, c.items-test.false)) c.items.invariant.gone
