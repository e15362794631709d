use Rattle.std.proofs.Common.{arith}
use Rattle.xs_io.proofs.Pieces.{appends_front}
use Rattle.xs_io.proofs.whole.put_all.Goals as goal

pub pieces-preserved : goal.pieces-preserved
pieces-preserved g c = record {
  within = omega (arith, c.in-Ok.ensures.bound);
  so_far = appends_front _ (g.K.Sink.taken c.pieces.sink) _ _ c.pieces.written c.in-Ok.count c.pieces.invariant.so_far c.in-Ok.ensures.bytes;
  later = omega (arith, c.write.ensures.cause.later);
}
