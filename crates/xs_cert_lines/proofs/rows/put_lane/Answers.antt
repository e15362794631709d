use Rattle.std.proofs.Common.{◌≡◌, ◌+◌, ◌*◌, ◌^◌, ◌<◌, ◌≤◌, [], ◌++◌, length, get_or, take, drop, w64, refl, sym, subst, arith, add-one}
use Rattle.std.specs.Int.{trailing_zeros}
use Rattle.xs_closed.specs.Rows.{places}
use Rattle.xs_cert_lines.specs.Reading.{listed}
use Rattle.xs_cert_lines.proofs.Lanes.{IsLeft, whole_lane, lane_found, no_bits, bits_outside, lane_ends, partner_put}
use Rattle.xs_cert_lines.proofs.rows.put_lane.Goals as goal

pub partners-init : goal.partners-init
partners-init c =
    let row = get_or c.args.set.now.rows c.args.state [] in
    let wide : length row ≡ c.args.set.now.wide = c.wide-bound.ensures.sized.even c.args.state c.requires.state in
    let fits : c.lane-left.result < 2 ^ 64 = omega arith in
    let base : c.from-from.result ≡ c.args.place = c.from-from.ensures in
    record {
      left = subst (λ k. IsLeft row (k * 64) (c.args.place * 64 + 64) c.lane-left.result) (sym base) (whole_lane c.args.set.now c.args.state c.args.place c.lane-left.result fits wide c.lane-left.ensures);
      text = subst (λ k. take c.args.start c.args.page.now ++ listed (places (k * 64) (drop (k * 64) row)) ≡ take c.args.start c.args.page.now ++ listed (places (c.args.place * 64) (drop (c.args.place * 64) row))) (sym base) refl;
      size = refl;
      room = omega (arith, base);
    }

pub returns-then-wide-partner-clause-text : goal.returns-then-wide-partner-clause-text
returns-then-wide-partner-clause-text c =
    let row = get_or c.args.set.now.rows c.args.state [] in
    let wide : length row ≡ c.args.set.now.wide = c.wide-bound.ensures.sized.even c.args.state c.requires.state in
    let to = c.args.place * 64 + 64 in
    let fits : c.partners.left < 2 ^ 64 = omega (arith, c.partners.auto.left-fits) in
    let some : 0 < c.partners.left = omega (arith, c.partners-test.true) in
    let outside : length row ≤ c.partners.from + c.from.result = omega (arith, c.if-wide-partner.true, c.from-wide.ensures, c.wide-bound.ensures.value, wide) in
    let past : length row ≤ c.partners.from + trailing_zeros w64 c.partners.left = subst (λ k. length row ≤ c.partners.from + k) c.from.ensures outside in
    record {
      text = lane_ends c.partners.page _ c.partners.at c.partners.from to row c.partners.invariant.left.order (bits_outside row c.partners.from to c.partners.left fits some past c.partners.invariant.left) c.partners.invariant.text;
      size = c.partners.invariant.size;
    }

pub put-after-requires : goal.put-after-requires
put-after-requires c =
    let next = lane_found c.args.set.now c.args.state c.partners.from (c.args.place * 64 + 64) c.partners.left c.from.result c.requires.state c.wide-bound.ensures.sized (omega (arith, c.partners.auto.left-fits)) (omega (arith, c.partners-test.true)) c.from.ensures (omega (arith, c.if-wide-partner.false, c.from-wide.ensures, c.wide-bound.ensures.value)) c.partners.invariant.left in
    omega (arith, next.below, c.partners.invariant.room, c.partners.invariant.size, c.requires.room)

pub put_number-at-requires : goal.put_number-at-requires
put_number-at-requires c =
    let next = lane_found c.args.set.now c.args.state c.partners.from (c.args.place * 64 + 64) c.partners.left c.from.result c.requires.state c.wide-bound.ensures.sized (omega (arith, c.partners.auto.left-fits)) (omega (arith, c.partners-test.true)) c.from.ensures (omega (arith, c.if-wide-partner.false, c.from-wide.ensures, c.wide-bound.ensures.value)) c.partners.invariant.left in
    omega (arith, next.below, c.partners.invariant.room, c.partners.invariant.size, c.requires.room, c.put-after.ensures.is, c.put-after.ensures.size)

pub partners-smaller : goal.partners-smaller
partners-smaller c =
    let next = lane_found c.args.set.now c.args.state c.partners.from (c.args.place * 64 + 64) c.partners.left c.from.result c.requires.state c.wide-bound.ensures.sized (omega (arith, c.partners.auto.left-fits)) (omega (arith, c.partners-test.true)) c.from.ensures (omega (arith, c.if-wide-partner.false, c.from-wide.ensures, c.wide-bound.ensures.value)) c.partners.invariant.left in
    omega (arith, next.below)

pub partners-preserved : goal.partners-preserved
partners-preserved c =
    let next = lane_found c.args.set.now c.args.state c.partners.from (c.args.place * 64 + 64) c.partners.left c.from.result c.requires.state c.wide-bound.ensures.sized (omega (arith, c.partners.auto.left-fits)) (omega (arith, c.partners-test.true)) c.from.ensures (omega (arith, c.if-wide-partner.false, c.from-wide.ensures, c.wide-bound.ensures.value)) c.partners.invariant.left in
    record {
      left = rw add-one next.next;
      text = rw add-one (partner_put c.partners.page c.put-after.new.page c.put_number-at.new.page _ c.partners.at c.put-after.result c.put_number-at.result c.partners.from (c.args.place * 64 + 64) _ (c.partners.from + c.from.result) (get_or c.args.set.now.rows c.args.state []) c.partners.invariant.text next c.put-after.ensures c.put_number-at.ensures.text);
      size = omega (arith, c.put_number-at.ensures.text.size, c.put-after.ensures.size, c.partners.invariant.size);
      room = omega (arith, next.below, c.put_number-at.ensures.short, c.put-after.ensures.is, c.partners.invariant.room);
    }

pub returns-clause-text : goal.returns-clause-text
returns-clause-text c =
    let row = get_or c.args.set.now.rows c.args.state [] in
    let to = c.args.place * 64 + 64 in
    let zero : c.partners.left ≡ 0 = omega (arith, c.partners-test.false) in
    record {
      text = lane_ends c.partners.page _ c.partners.at c.partners.from to row c.partners.invariant.left.order (no_bits row c.partners.from to (subst (IsLeft row c.partners.from to) zero c.partners.invariant.left)) c.partners.invariant.text;
      size = c.partners.invariant.size;
    }
