use Rattle.std.proofs.Common.{◌≡◌, ℕ, ◌-◌, ◌++◌, length, ap, subst, refl, arith, length-append}
use Rattle.xs_loose.specs.Parts.{part_items}
use Rattle.xs_loose.proofs.Pushing.{element_is}
use Rattle.xs_loose.proofs.Stretches.{part_stretch, part_long}
use Rattle.xs_coarse_net.specs.declared.cover.Outer.{Outer}
use Rattle.xs_coarse_net.specs.declared.cover.Cover.{Cover}
use Rattle.xs_coarse_net.specs.Stretches.{IsCovered}
use Rattle.xs_coarse_net.proofs.Covering.{covered_none, covered_more, covered_stands, covered_done}
use Rattle.xs_coarse_net.proofs.stretch.cover_of.Goals as goal

pub items-init : goal.items-init
items-init c =
    let g = c.args.ground.now.site.g.now in
    let t = c.args.ground.now.site.labels.now in
    let part = c.args.part in
    record {
      later = omega arith;
      within = c.requires.part.order;
      number = omega (arith, element_is c.args.ground.now.site.groups.now part.rule c.at-number.result.now 0 c.at-number.ensures, c.requires.ground.site.ready.groups.each part.rule c.requires.part.rule);
      covered = rw c.in_ok-places.ensures.items (covered_none g t _ part.rule part.start (part_items g part) c.in_ok-net.ensures.states c.requires.part.level);
    }

pub items-preserved : goal.items-preserved
items-preserved c =
    let g = c.args.ground.now.site.g.now in
    let t = c.args.ground.now.site.labels.now in
    let part = c.args.part in
    let is = part_items g part in
    let place : c.items.next ≡ c.items.place = omega (arith, c.items.invariant.later, c.if-place-next.false) in
    let long = part_long g part c.requires.part in
    let was : IsCovered g t c.items.net part.rule part.start is c.items.place c.items.places.items = subst (λ (x : ℕ). IsCovered g t c.items.net part.rule part.start is x c.items.places.items) place c.items.invariant.covered in
    let stands = covered_stands g t c.items.net part.rule part.start c.items.place is c.items.places.items (part_stretch g part c.requires.part) (omega (arith, long, c.items-test.true)) was in
    let more = c.in_ok-next.ensures.extends was.rest stands in
    let o : Outer = record { place = c.items.place; state = c.len.result - 1 } in
    let new = covered_more g t c.items.net c.add_piece.new.net part.rule part.start c.items.place c.in_ok-next.next is c.items.places.items o refl (omega (arith, c.len.ensures.states)) was more in
    record {
      later = omega (arith, more.is.place, more.is.some);
      within = omega (arith, new.place, ap length {y = new.front ++ new.rest} new.split, length-append new.front new.rest, long);
      number = c.in_ok-number.ensures;
      covered = rw c.in_ok-push.ensures.items new;
    }

pub returns : goal.returns
returns c =
    let g = c.args.ground.now.site.g.now in
    let t = c.args.ground.now.site.labels.now in
    let o : Outer = record { place = c.args.part.end; state = c.len-last.result - 1 } in
    let cover : Cover = record { net = c.items.net; places = c.push-2.new.self; last = c.len-last.result - 1 } in
    let next : c.args.part.end ≡ c.items.next = omega (arith, c.items.invariant.later, c.items.invariant.within, c.items-test.false) in
    let last : c.len-last.result - 1 ≡ c.items.net.states - 1 = omega (arith, c.len-last.ensures.states) in
    covered_done g t c.items.net c.args.part c.requires.part c.len-last.ensures.within c.len-last.ensures.some c.items.next c.items.places.items o cover (omega (arith, next)) next last refl last c.in_ok-push-2.ensures.items c.items.invariant.covered
