use Rattle.std.proofs.Common.{◌≡◌, arith}
use Rattle.xs_regex.specs.Links.{joined_shape, shape}
use Rattle.xs_regex.specs.Size.{copies}
use Rattle.xs_regex.proofs.Built.{class_is, star_is}
use Rattle.xs_regex.proofs.Copies.{times_is}
use Rattle.xs_regex.proofs.Links.{class_links, then_links, either_links, round_links, optional_links}
use Rattle.xs_regex.proofs.Passed.{part_joins, made_of, passed_size, joined_begun, joined_next, joined_ended, places_ended}
use Rattle.xs_regex.proofs.Places.{ok_weaker, copies_small}
use Rattle.xs_regex.proofs.Shapes.{no_copy}
use Rattle.xs_regex.proofs.automaton.+built.Goals as goal

pub any_number-returns-clause-automaton : goal.any_number-returns-clause-automaton
any_number-returns-clause-automaton t c = rw c.maybe.ensures (star_is c.in_ok-p.ensures.automaton c.in_ok-round.ensures)

pub any_number-returns-clause-links : goal.any_number-returns-clause-links
any_number-returns-clause-links t c = rw c.maybe.ensures (optional_links (round_links c.in_ok-p.ensures.automaton.formed c.in_ok-p.ensures.links c.in_ok-round.ensures))

pub built-returns-in-Set-clause-automaton : goal.built-returns-in-Set-clause-automaton
built-returns-in-Set-clause-automaton t c = rw c.in-Set.is (ok_weaker c.single.result _ _ (λ p e. rw e (class_is c.in-Set.class _)) c.single.ensures)

pub built-returns-in-Set-clause-links : goal.built-returns-in-Set-clause-links
built-returns-in-Set-clause-links t c = rw c.in-Set.is (ok_weaker c.single.result _ _ (λ p e. rw e (class_links c.in-Set.class)) c.single.ensures)

pub built-returns-in-Then-clause-automaton : goal.built-returns-in-Then-clause-automaton
built-returns-in-Then-clause-automaton t c = rw c.in-Then.is (rw (c.deref.ensures, c.deref-in-Then.ensures) at c.joined.ensures.automaton)

pub built-returns-in-Then-clause-links : goal.built-returns-in-Then-clause-links
built-returns-in-Then-clause-links t c = rw c.in-Then.is (rw (c.deref.ensures, c.deref-in-Then.ensures) at c.joined.ensures.links)

pub built-returns-in-Star-clause-automaton : goal.built-returns-in-Star-clause-automaton
built-returns-in-Star-clause-automaton t c = rw c.in-Star.is (rw c.deref-in-Star.ensures at c.any_number.ensures.automaton)

pub built-returns-in-Star-clause-links : goal.built-returns-in-Star-clause-links
built-returns-in-Star-clause-links t c = rw c.in-Star.is (rw c.deref-in-Star.ensures at c.any_number.ensures.links)

pub built-returns-in-Times-clause-automaton : goal.built-returns-in-Times-clause-automaton
built-returns-in-Times-clause-automaton t c = rw c.in-Times.is (rw c.deref-in-Times.ensures at c.counted.ensures.automaton)

pub built-returns-in-Times-clause-links : goal.built-returns-in-Times-clause-links
built-returns-in-Times-clause-links t c = rw c.in-Times.is (rw c.deref-in-Times.ensures at c.counted.ensures.links)

pub counted-repeated-requires-clause-small : goal.counted-repeated-requires-clause-small
counted-repeated-requires-clause-small t c = copies_small c.args.a.now (copies c.args.least c.args.most) _ _ c.in_ok-p.p c.requires c.in_ok-p.ensures.automaton

pub counted-returns-in-Some-eq0-clause-links : goal.counted-returns-in-Some-eq0-clause-links
counted-returns-in-Some-eq0-clause-links t c =
    let none : c.in-Some-eq0.field-0 ≡ 0 = omega arith in
    no_copy (shape c.args.a.now) _ c.args.least c.args.most c.in-Some-eq0.field-0 c.in-Some-eq0.is none c.nothing.ensures

pub counted-returns-clause-automaton : goal.counted-returns-clause-automaton
counted-returns-clause-automaton t c = ok_weaker c.repeated.result _ _ (λ r e. times_is r c.args.least c.args.most c.in_ok-p.ensures.automaton e) c.repeated.ensures.automaton

pub counted-returns-clause-links : goal.counted-returns-clause-links
counted-returns-clause-links t c = ok_weaker c.repeated.result _ _ (λ r e. e (shape c.args.a.now) c.in_ok-p.ensures.links) c.repeated.ensures.links

pub add-sequence-requires : goal.add-sequence-requires
add-sequence-requires t c = part_joins c.args.part.now c.args.all.now c.in_ok-next.next c.requires.formed c.requires.small c.in_ok-next.ensures.automaton

pub add-either-requires : goal.add-either-requires
add-either-requires t c = part_joins c.args.part.now c.args.all.now c.in_ok-next.next c.requires.formed c.requires.small c.in_ok-next.ensures.automaton

pub add-returns-in-Turn-clause-part : goal.add-returns-in-Turn-clause-part
add-returns-in-Turn-clause-part t c = rw c.in-Turn.is (ok_weaker c.sequence.result _ _ (λ _ e. (c.in_ok-next.next, c.in_ok-next.ensures.automaton, e)) c.sequence.ensures)

pub add-returns-in-Turn-clause-links : goal.add-returns-in-Turn-clause-links
add-returns-in-Turn-clause-links t c = rw c.in-Turn.is (ok_weaker c.sequence.result _ _ (λ _ e s h. then_links c.requires.formed h c.in_ok-next.ensures.links e) c.sequence.ensures)

pub add-returns-clause-part : goal.add-returns-clause-part
add-returns-clause-part t c = rw c.in-Choice.is (ok_weaker c.either.result _ _ (λ _ e. (c.in_ok-next.next, c.in_ok-next.ensures.automaton, e)) c.either.ensures)

pub add-returns-clause-links : goal.add-returns-clause-links
add-returns-clause-links t c = rw c.in-Choice.is (ok_weaker c.either.result _ _ (λ _ e s h. either_links c.requires.formed h c.in_ok-next.ensures.links e) c.either.ensures)

pub joined-parts-init : goal.joined-parts-init
joined-parts-init t c = joined_begun c.args.join c.args.a.now c.args.b.now c.in_ok-all.all c.in_ok-all.ensures.automaton c.in_ok-all.ensures.links

pub joined-add-requires : goal.joined-add-requires
joined-add-requires t c =
    let is = made_of c.args.join c.parts.rest.now c.in-Some.part.now c.in-Some.next.now c.in-Some.ensures in
    let m = passed_size c.args.a.now c.args.b.now c.parts.rest.now c.parts.all c.parts.invariant.1.classes_are in (
      omega (arith, c.decreases, is.nodes_are, c.parts.invariant.0),
      (c.parts.invariant.1.formed, omega (arith, is.size_adds, m, c.requires)),
    )

pub joined-parts-preserved : goal.joined-parts-preserved
joined-parts-preserved t c =
    let is = made_of c.args.join c.parts.rest.now c.in-Some.part.now c.in-Some.next.now c.in-Some.ensures in
    joined_next c.args.join c.args.a.now c.args.b.now c.parts.rest.now c.in-Some.part.now c.in-Some.next.now c.parts.all c.in_ok-add.ensures.part.0 c.add.new.all is c.parts.invariant c.in_ok-add.ensures.part.1 c.in_ok-add.ensures.part.2 c.in_ok-add.ensures.links

pub joined-parts-smaller : goal.joined-parts-smaller
joined-parts-smaller t c =
    let is = made_of c.args.join c.parts.rest.now c.in-Some.part.now c.in-Some.next.now c.in-Some.ensures in
    omega (arith, is.nodes_are)

pub joined-add-requires-2 : goal.joined-add-requires-2
joined-add-requires-2 t c =
    let m = passed_size c.args.a.now c.args.b.now c.parts.rest.now c.parts.all c.parts.invariant.1.classes_are in (
      omega (arith, c.decreases, c.parts.invariant.0),
      (c.parts.invariant.1.formed, omega (arith, m, c.requires)),
    )

pub joined-returns-clause-automaton : goal.joined-returns-clause-automaton
joined-returns-clause-automaton t c = joined_ended c.args.join c.args.a.now c.args.b.now c.parts.rest.now c.parts.all c.in_ok-add-2.ensures.part.0 c.add-2.new.all c.parts.invariant c.in_ok-add-2.ensures.part.1 c.in_ok-add-2.ensures.part.2

pub joined-returns-clause-links : goal.joined-returns-clause-links
joined-returns-clause-links t c = places_ended (joined_shape c.args.join) _ _ _ _ c.parts.invariant.2 c.in_ok-add-2.ensures.links
