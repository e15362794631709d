use Rattle.std.proofs.Common.{ℕ, ◌+◌, get_or, refl, subst, arith}
use Rattle.std.proofs.lemmas.Option.{slice_get-get_or}
use Rattle.xs_coarse_net.specs.Fragments.{AreCopied}
use Rattle.xs_coarse_net.specs.Reaching.{left_net}
use Rattle.xs_coarse_net.proofs.Tracing.{reaches_none, reaches_on, copied_more}
use Rattle.xs_coarse_net.proofs.fragment.Tracer.copy_rows.Goals as goal

pub states-init : goal.states-init
states-init c = record { reaches = reaches_none; done = refl; copied = λ x u label y e low has. absurd (omega (arith, low)) }

pub states-preserved : goal.states-preserved
states-preserved c =
    let named = c.states.invariant.reaches.named c.requires.named in
    let at = slice_get-get_or c.states.self.order.items c.states.place 0 (omega (arith, c.if-place-len.false)) in
    let was = subst (λ (d : ℕ). AreCopied (left_net c.args.has.now c.args.whole.now) c.states.self d) c.states.invariant.done c.states.invariant.copied in
    record {
      reaches = reaches_on c.states.invariant.reaches c.in_ok-copy_row.ensures.reaches;
      done = refl;
      copied = copied_more (left_net c.args.has.now c.args.whole.now) c.states.self c.copy_row.new.self c.states.place (get_or c.states.self.order.items c.states.place 0) (c.states.place + 1) (omega arith) named (c.in_ok-copy_row.ensures.reaches.named named) at c.in_ok-copy_row.ensures.reaches was (λ label y has. c.in_ok-copy_row.ensures.copied (get_or c.states.self.order.items c.states.place 0) label y at has);
    }
