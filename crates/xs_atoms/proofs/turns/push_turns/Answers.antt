use Rattle.std.proofs.Common.{arith}
use Rattle.xs_atoms.proofs.Turning.{span_pushed}
use Rattle.xs_atoms.proofs.turns.push_turns.Goals as goal

pub spans-preserved : goal.spans-preserved
spans-preserved c =
    span_pushed c.args.class c.spans.turns.items c.push.new.self.items c.push-in-spans.new.self.items c.args.turns.now.items c.args.ranges.now c.spans.range-index _ c.from.result c.from-in-spans.result (omega arith) c.from.ensures c.from-in-spans.ensures c.spans.invariant c.in_ok-push.ensures.items c.in_ok-push-2.ensures.items
