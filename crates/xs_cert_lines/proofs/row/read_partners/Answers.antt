use Rattle.std.proofs.Common.{◌+◌, ◌<◌, ◌^◌, suc, drop, length, get_or, subst, sym, arith, add-one}
use Rattle.xs_cert_lines.specs.Reading.{HasPartners}
use Rattle.xs_cert_lines.proofs.Digits.{cut, feed_cut}
use Rattle.xs_cert_lines.proofs.Partners.{no_feed_first, next_skipped, none_skipped}
use Rattle.xs_cert_lines.proofs.Marking.{last_marked, marking_goes_on, marks_in_more, sized_again}
use Rattle.xs_cert_lines.proofs.row.read_partners.Goals as goal

pub returns-then-bytes-after-eq10-clause-some : goal.returns-then-bytes-after-eq10-clause-some
returns-then-bytes-after-eq10-clause-some c =
    let bytes = c.args.bytes.now in
    let old = c.args.set.now in
    let small : c.wide-end.result < 2 ^ 32 = omega arith in
    last_marked c.wide-end.result c.partners.first old c.partners.set c.insert.new.self c.args.state (drop c.args.start bytes) (drop c.partners.at bytes) c.in-Some.number (drop c.in-Some.after bytes) (drop (c.in-Some.after + 1) bytes)
    small c.wide-end.ensures.value c.partners.invariant.same c.in-Some.ensures.value (feed_cut c.in-Some.after bytes c.in-Some.ensures.feed c.if-bytes-after-eq10.true)
    (sized_again (length old.rows) old.wide c.partners.set c.insert.new.self c.partners.invariant.row.sized c.insert.ensures.sized) c.insert.ensures.marks c.partners.invariant.marks

pub partners-preserved : goal.partners-preserved
partners-preserved c =
    let bytes = c.args.bytes.now in
    let old = c.args.set.now in
    let small : c.wide-end.result < 2 ^ 32 = omega arith in
    let other = no_feed_first (get_or bytes c.in-Some.after 0) (drop (suc c.in-Some.after) bytes) (drop c.in-Some.after bytes) (cut c.in-Some.after bytes c.in-Some.ensures.feed) (λ e. omega (arith, c.if-bytes-after-eq10.false, e)) in
    record {
      feed = c.in-Some.ensures.feed;
      order = omega (arith, c.in-Some.ensures.order, c.partners.invariant.order);
      same = rw add-one (next_skipped c.wide-end.result 0 (drop c.args.start bytes) c.partners.first (drop c.partners.at bytes) c.in-Some.number (drop c.in-Some.after bytes) small c.partners.invariant.same c.in-Some.ensures.value other);
      row = marks_in_more old c.partners.set c.insert.new.self c.args.state c.in-Some.number c.partners.invariant.row c.insert.ensures.sized c.insert.ensures.marks;
      marks = λ partners rest are. rw add-one (marking_goes_on c.partners.first c.wide-end.result old c.partners.set c.insert.new.self c.args.state (drop c.partners.at bytes) partners rest c.in-Some.number (drop c.in-Some.after bytes) small c.in-Some.ensures.value c.insert.ensures.marks (c.partners.invariant.marks partners rest are));
    }

pub returns-clause-none : goal.returns-clause-none
returns-clause-none c =
    let bytes = c.args.bytes.now in
    let small : c.wide-end.result < 2 ^ 32 = omega arith in
    λ rest has. none_skipped c.wide-end.result 0 (drop c.args.start bytes) c.partners.first (drop c.partners.at bytes) small c.partners.invariant.same c.in_default.ensures.value rest
    (subst (λ k. HasPartners 0 k (drop c.args.start bytes) rest) (sym c.wide-end.ensures.value) has)
