use Rattle.std.proofs.Common.{◌-◌, refl}
use Rattle.xs_gram.proofs.Cuts.{none_step, near_step}
use Rattle.xs_gram.proofs.cutting.round.Goals as goal
use Rattle.xs_gram.proofs.cutting.round.Goals.{in-Some+else-c-right, in_default}

pub items-preserved : goal.items-preserved
items-preserved c =
    elim c.match-partners-left.branch [
      | in-Some+else-c-right w ↦ near_step c.args.partners.now c.args.c c.items.done (c.args.c - 1 - c.items.done) w.in-Some.right refl c.items-test.true c.items.invariant w.in-Some.is w.if-c-right.false
      | in_default w ↦ none_step c.args.partners.now c.args.c c.items.done (c.args.c - 1 - c.items.done) refl c.items-test.true c.items.invariant w.in_default.not-Some
    ]
