use Rattle.std.proofs.Common.{arith}
use Rattle.xs_regex.proofs.Copies.{room, between_init, between_more, between_end}
use Rattle.xs_regex.proofs.Shapes.{between_begun, between_next, between_ended}
use Rattle.xs_regex.proofs.repeat.between.Goals as goal

pub copies-init : goal.copies-init
copies-init c = (
  between_init c.args.one.now c.nothing-all.result c.args.least c.args.most c.nothing-all.ensures,
  λ s h. between_begun s c.args.least c.args.most c.nothing-all.ensures,
)

pub sequence-requires : goal.sequence-requires
sequence-requires c = rw c.in_ok-more.ensures (room c.args.one.now c.copies.all _ _ c.copies.later c.args.most c.requires.formed (omega arith) c.requires.small c.copies.invariant.0)

pub copies-preserved : goal.copies-preserved
copies-preserved c = (
  between_more c.args.one.now c.copies.all _ c.maybe_if-all.result c.args.least c.args.most c.copies.later (omega arith) c.requires.formed c.copies.invariant.0 (rw c.in_ok-more.ensures at c.in_ok-sequence.ensures) c.maybe_if-all.ensures,
  λ s h. between_next c.args.least c.args.most c.copies.later (omega arith) c.requires.formed (rw c.in_ok-more.ensures at c.in_ok-sequence.ensures) c.maybe_if-all.ensures h (c.copies.invariant.1 s h),
)

pub returns-clause-automaton : goal.returns-clause-automaton
returns-clause-automaton c = between_end c.args.one.now c.copies.all c.args.least c.args.most c.copies.later (omega arith) c.copies.invariant.0

pub returns-clause-links : goal.returns-clause-links
returns-clause-links c = λ s h. between_ended s c.args.least c.args.most c.copies.later (omega arith) (c.copies.invariant.1 s h)
