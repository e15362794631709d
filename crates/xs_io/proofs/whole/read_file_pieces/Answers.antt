use Rattle.std.proofs.Common.{◌≤◌, ℕ, length, take, ap, arith, length-append}
use Rattle.std.proofs.lemmas.List.{length-take, take-append-le}
use Rattle.xs_io.proofs.Files.{begins_none, begins_more, file_whole, file_long, touches_none, touches_more}
use Rattle.xs_io.proofs.whole.read_file_pieces.Goals as goal

pub pieces-init : goal.pieces-init
pieces-init g c = record {
  within = rw c.new-bytes.ensures (omega arith);
  given = rw c.new-bytes.ensures (omega arith);
  so_far = rw c.new-bytes.ensures (begins_none (g.H.Shelf.files c.args.shelf.now) c.args.name.now);
  touched = touches_none _ _ _ _;
}

pub returns-in_err-count-clause-touched : goal.returns-in_err-count-clause-touched
returns-in_err-count-clause-touched g c =
    touches_more c.pieces.invariant.touched c.read_at.ensures.same c.read_at.ensures.later c.read_at.ensures.name_later c.read_at.ensures.others

pub returns-then-count-eq0-clause-touched : goal.returns-then-count-eq0-clause-touched
returns-then-count-eq0-clause-touched g c =
    touches_more c.pieces.invariant.touched c.read_at.ensures.same c.read_at.ensures.later c.read_at.ensures.name_later c.read_at.ensures.others

pub returns-then-count-rest-clause-touched : goal.returns-then-count-rest-clause-touched
returns-then-count-rest-clause-touched g c =
    touches_more c.pieces.invariant.touched c.read_at.ensures.same c.read_at.ensures.later c.read_at.ensures.name_later c.read_at.ensures.others

pub returns-in_err-extend-clause-touched : goal.returns-in_err-extend-clause-touched
returns-in_err-extend-clause-touched g c =
    touches_more c.pieces.invariant.touched c.read_at.ensures.same c.read_at.ensures.later c.read_at.ensures.name_later c.read_at.ensures.others

pub pieces-preserved : goal.pieces-preserved
pieces-preserved g c =
    let fits : c.in_ok-count.count ≤ length c.read_at.new.buf = omega (arith, c.in_ok-count.ensures.bound) in
    record {
      within = rw (c.in_ok-extend.ensures.ok, take-append-le) (omega (arith, length-append c.pieces.bytes (take c.in_ok-count.count c.read_at.new.buf), length-take {A = ℕ}));
      given = rw (c.in_ok-extend.ensures.ok, take-append-le) (omega (arith, length-append c.pieces.bytes (take c.in_ok-count.count c.read_at.new.buf), length-take {A = ℕ}, c.in_ok-count.ensures.given));
      so_far = rw (c.in_ok-extend.ensures.ok, take-append-le) (begins_more _ _ _ _ _ _ c.pieces.invariant.so_far c.pieces.invariant.touched.same c.len-in-pieces.ensures c.in_ok-count.ensures.bytes);
      touched = touches_more c.pieces.invariant.touched c.read_at.ensures.same c.read_at.ensures.later c.read_at.ensures.name_later c.read_at.ensures.others;
    }

pub returns-then-count-eq0-clause-whole : goal.returns-then-count-eq0-clause-whole
returns-then-count-eq0-clause-whole g c =
    file_whole _ _ _ _ _ _ _ c.pieces.invariant.so_far c.pieces.invariant.touched.same c.len-in-pieces.ensures c.in_ok-count.ensures.bytes (ap (λ n. take n c.read_at.new.buf) c.if-count-eq0.true) c.pieces.invariant.within

pub returns-then-count-rest-clause-long : goal.returns-then-count-rest-clause-long
returns-then-count-rest-clause-long g c long =
    file_long _ _ _ _ _ _ _ c.pieces.invariant.so_far c.pieces.invariant.touched.same c.len-in-pieces.ensures c.in_ok-count.ensures.bytes
    (omega (arith, length-take {A = ℕ}, c.in_ok-count.ensures.bound))
