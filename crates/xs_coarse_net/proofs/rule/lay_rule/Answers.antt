use Rattle.std.proofs.Common.{length, ap, arith}
use Rattle.xs_loose.proofs.Pushing.{element_is}
use Rattle.xs_coarse_net.proofs.Going.{grows_none, grows_on}
use Rattle.xs_coarse_net.proofs.Wholes.{places_more, place_grown}
use Rattle.xs_coarse_net.proofs.rule.lay_rule.Goals as goal

pub places-init : goal.places-init
places-init c = record {
  number = omega (arith, element_is c.args.site.now.groups.now c.args.rule c.at-number.result.now 0 c.at-number.ensures, c.requires.site.ready.groups.each c.args.rule c.requires.rule);
  grows = grows_none;
  laid = λ j low. absurd (omega (arith, low));
}

pub places-preserved : goal.places-preserved
places-preserved c = record {
  number = c.in_ok-number.ensures;
  grows = grows_on c.places.invariant.grows c.in_ok-lay_place.ensures.grows;
  laid = places_more c.places.place c.in_ok-lay_place.ensures.grows c.places.invariant.laid c.in_ok-lay_place.ensures.laid;
}

pub returns-clause-grows : goal.returns-clause-grows
returns-clause-grows c = grows_on c.places.invariant.grows c.in_ok-lay_ends.ensures.grows

pub returns-clause-laid : goal.returns-clause-laid
returns-clause-laid c = record {
  places = λ k low. place_grown c.in_ok-lay_ends.ensures.grows (c.places.invariant.laid k (omega (arith, low, c.places-test.false, ap length c.spread.ensures.items)));
  passes = λ none. c.in_ok-lay_ends.ensures.passes (omega (arith, none, ap length c.spread.ensures.items));
}
