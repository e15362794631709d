use Rattle.std.proofs.Common.{◌<◌, max, arith}
use Rattle.xs_regex.proofs.Copies.{room, at_least_init, at_least_more, at_least_end}
use Rattle.xs_regex.proofs.Shapes.{least_begun, least_next, least_ended}
use Rattle.xs_regex.proofs.repeat.at_least.Goals as goal

pub copies-init : goal.copies-init
copies-init c = (
  omega arith,
  at_least_init c.args.one.now _ c.maybe_if-all.result c.args.least c.requires.formed (rw c.in_ok-last.ensures at c.in_ok-round.ensures) c.maybe_if-all.ensures,
  λ s h. least_begun c.args.least c.requires.formed (rw c.in_ok-last.ensures at c.in_ok-round.ensures) c.maybe_if-all.ensures h,
)

pub sequence-requires : goal.sequence-requires
sequence-requires c =
    let few : c.copies.later < max c.args.least 1 = omega arith in
    rw c.in_ok-more.ensures (room c.args.one.now c.copies.all _ _ c.copies.later (max c.args.least 1) c.requires.formed few c.requires.small c.copies.invariant.1)

pub copies-preserved : goal.copies-preserved
copies-preserved c = (
  omega arith,
  at_least_more c.args.one.now c.copies.all _ c.args.least c.copies.later (omega arith) c.requires.formed c.copies.invariant.1 (rw c.in_ok-more.ensures at c.in_ok-sequence.ensures),
  λ s h. least_next c.args.least c.copies.later (omega arith) (omega arith) c.requires.formed (rw c.in_ok-more.ensures at c.in_ok-sequence.ensures) h (c.copies.invariant.2 s h),
)

pub returns-clause-automaton : goal.returns-clause-automaton
returns-clause-automaton c = at_least_end c.args.one.now c.copies.all c.args.least c.copies.later (omega arith) (omega arith) c.copies.invariant.0 c.copies.invariant.1

pub returns-clause-links : goal.returns-clause-links
returns-clause-links c = λ s h. least_ended s c.args.least c.copies.later (omega arith) (c.copies.invariant.2 s h)
