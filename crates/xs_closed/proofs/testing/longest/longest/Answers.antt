use Rattle.std.proofs.Common.{◌≡◌, ◌+◌, arith}
use Rattle.xs_auto.specs.Nets.{states}
use Rattle.xs_meet.specs.Closed.{Marked}
use Rattle.xs_closed.specs.Rows.{marked}
use Rattle.xs_closed.proofs.LongestLemmas.{read_more, fails_on, best_on, best_more}
use Rattle.xs_closed.proofs.testing.longest.longest.Goals as goal

pub returns-in-None : goal.returns-in-None
returns-in-None c =
    let s = c.states in
    best_on c.args.set.now (Marked (marked c.args.related.now)) c.args.m.now c.args.n.now c.args.low (s.a + 1) (states c.args.m.now + 1) c.better-best.result (omega (arith, c.len-high.ensures)) (λ k l o limit. fails_on c.args.set.now (Marked (marked c.args.related.now)) c.args.m.now c.args.n.now c.args.low s.a s.need k c.in-None.ensures (omega arith) limit) (best_more c.args.set.now (Marked (marked c.args.related.now)) c.args.m.now c.args.n.now c.args.low s.a s.need s.count s.best c.better-best.result s.invariant.read s.invariant.count c.better-best.ensures.taken c.better-best.ensures.kept s.invariant.best)

pub states-preserved : goal.states-preserved
states-preserved c =
    let s = c.states in
    record {
      read = read_more c.args.set.now (Marked (marked c.args.related.now)) c.args.m.now c.args.n.now c.args.low s.a s.need c.in-Some.more s.invariant.read c.in-Some.ensures;
      best = best_more c.args.set.now (Marked (marked c.args.related.now)) c.args.m.now c.args.n.now c.args.low s.a s.need s.count s.best c.better-best.result s.invariant.read s.invariant.count c.better-best.ensures.taken c.better-best.ensures.kept s.invariant.best;
      count = c.counted-count.ensures;
    }

pub returns : goal.returns
returns c =
    let s = c.states in
    let e : s.a ≡ states c.args.m.now = omega (arith, c.len-high.ensures) in
    let best = best_more c.args.set.now (Marked (marked c.args.related.now)) c.args.m.now c.args.n.now c.args.low s.a s.need s.count s.best c.better.result s.invariant.read s.invariant.count (λ l. c.better.ensures.taken (omega (arith, c.len-high.ensures))) (λ l. c.better.ensures.kept (omega (arith, c.len-high.ensures))) s.invariant.best in
    rw e at best
