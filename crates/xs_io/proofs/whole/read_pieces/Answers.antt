use Rattle.std.proofs.Common.{◌<◌, ℕ, length, take, ap, arith}
use Rattle.std.proofs.lemmas.List.{length-take}
use Rattle.xs_io.proofs.Pieces.{drains, exceeds, takes_both, takes_kept}
use Rattle.xs_io.proofs.whole.read_pieces.Goals as goal

pub returns-then-count-left-clause-long : goal.returns-then-count-left-clause-long
returns-then-count-left-clause-long g c too_long =
    exceeds _ (g.S.Source.left c.pieces.src) _ c.pieces.bytes (take c.in_ok-count.count c.read.new.buf) c.args.limit c.pieces.invariant.so_far c.in_ok-count.ensures.bytes.0
    (omega (arith, length-take {A = ℕ}, c.in_ok-count.ensures.bound))
    (omega (arith, length-take {A = ℕ}, c.in_ok-count.ensures.bound))

pub returns-then-count-left-clause-taken : goal.returns-then-count-left-clause-taken
returns-then-count-left-clause-taken g c =
    takes_both _ (g.S.Source.left c.pieces.src) _ c.pieces.bytes (take c.in_ok-count.count c.read.new.buf) _ c.pieces.invariant.so_far c.in_ok-count.ensures.bytes.0
    (omega (arith, length-take {A = ℕ}, c.in_ok-count.ensures.bound))

pub returns-in_err-extend-clause-taken : goal.returns-in_err-extend-clause-taken
returns-in_err-extend-clause-taken g c =
    takes_both _ (g.S.Source.left c.pieces.src) _ c.pieces.bytes (take c.in_ok-count.count c.read.new.buf) _ c.pieces.invariant.so_far c.in_ok-count.ensures.bytes.0
    (omega (arith, length-take {A = ℕ}, c.in_ok-count.ensures.bound))

pub returns-then-count-eq0-clause-whole : goal.returns-then-count-eq0-clause-whole
returns-then-count-eq0-clause-whole g c =
    let room : 0 < length c.read.new.buf = omega (arith, length-take {A = ℕ}, c.in_ok-count.ensures.bound) in
    drains _ (g.S.Source.left c.pieces.src) _ c.pieces.bytes (take c.in_ok-count.count c.read.new.buf) c.args.limit c.pieces.invariant.so_far c.in_ok-count.ensures.bytes.0 (ap (λ n. take n c.read.new.buf) c.if-count-eq0.true) (c.in_ok-count.ensures.bytes.1 c.if-count-eq0.true room) c.pieces.invariant.within

pub returns-then-count-eq0-clause-taken : goal.returns-then-count-eq0-clause-taken
returns-then-count-eq0-clause-taken g c =
    takes_both _ (g.S.Source.left c.pieces.src) _ c.pieces.bytes (take c.in_ok-count.count c.read.new.buf) _ c.pieces.invariant.so_far c.in_ok-count.ensures.bytes.0
    (omega (arith, length-take {A = ℕ}, c.in_ok-count.ensures.bound))

pub returns-in_err-count-clause-taken : goal.returns-in_err-count-clause-taken
returns-in_err-count-clause-taken g c =
    takes_kept _ (g.S.Source.left c.pieces.src) _ c.pieces.bytes _ c.pieces.invariant.so_far c.in_err-count.ensures.bytes (omega arith)
