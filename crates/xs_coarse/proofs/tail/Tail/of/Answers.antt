use Rattle.std.proofs.Common.{◌-◌, arith}
use Rattle.xs_class.proofs.Truth.{lt_true}
use Rattle.xs_coarse.proofs.tail.Tail.of.Goals as goal

pub of-requires-clause-within : goal.of-requires-clause-within
of-requires-clause-within c = c.in_ok-arcs.ensures.within (c.len-states.result - c.args.gate) (omega (arith, c.if-gate-last.false, c.if-last-states.false, c.len-states.ensures.states))

pub returns : goal.returns
returns c = record {
  shut = c.is_gate.ensures c.if-not-is_gate.false;
  states = omega (arith, c.in_ok-own.ensures.states, c.if-gate-last.false, c.if-last-states.false, c.len-states.ensures.states);
  ends = omega (arith, c.if-gate-last.false);
  inside = omega (arith, c.in_ok-own.ensures.states, c.if-gate-last.false, c.if-last-states.false);
  arcs = λ x has. (c.in_ok-own.ensures.arcs x).1 (c.in_ok-arcs.ensures.has x has);
  front = λ some. lt_true 0 c.args.gate some;
}
