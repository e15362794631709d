use Rattle.xs_regex.proofs.Adding.{add_span, add_named, unknown}
use Rattle.xs_regex.proofs.sets.add.Goals as goal

pub returns-in_ok-extend-in-Span : goal.returns-in_ok-extend-in-Span
returns-in_ok-extend-in-Span c = rw c.in-Span.is (add_span c.args.into.now.items c.extend.new.into.items c.in-Span.low c.in-Span.high c.in_ok-extend-in-Span.ensures.items)

pub returns-in_ok-extend-in-Ok : goal.returns-in_ok-extend-in-Ok
returns-in_ok-extend-in-Ok c = rw c.in-Named.is (add_named c.in-Named.letters.now c.args.into.now.items c.extend-in-Ok.new.into.items c.in-Ok.class (rw c.ranges-in-Ok.ensures.value at c.in_ok-extend-in-Ok.ensures.items) c.in-Ok.ensures)

pub returns-in-Err : goal.returns-in-Err
returns-in-Err c = λ k. rw c.in-Named.is (unknown c.in-Named.letters.now (c.in-Err.ensures k))
