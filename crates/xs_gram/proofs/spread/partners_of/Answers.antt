use Rattle.std.proofs.Common.{refl, reverse}
use Rattle.xs_gram.proofs.Spreading.{waiting_step, partners_step}
use Rattle.xs_gram.proofs.spread.partners_of.Goals as goal

pub items-preserved : goal.items-preserved
items-preserved c = record {
  later = waiting_step c.args.fences.now c.args.items.now c.items.done _ c.index-items-place.result (reverse c.items.later.items) (reverse c.partner_of.new.later.items) c.items-test.true refl c.index-items-place.is c.in_ok-partner.ensures.later c.items.invariant.later;
  found = partners_step c.args.fences.now c.args.items.now c.items.done _ c.index-items-place.result (reverse c.items.later.items) c.in_ok-partner.partner c.items.found.items c.push.new.self.items c.items-test.true refl c.index-items-place.is c.in_ok-partner.ensures.partner c.items.invariant.later c.in_ok-push.ensures.items c.items.invariant.found;
}
