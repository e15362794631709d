use Rattle.std.proofs.Common.{◌+◌}
use Rattle.std.specs.List.{Contains}
use Rattle.xs_coarse.specs.declared.arc.Arc.{Arc}
use Rattle.std.proofs.lemmas.List.{get_or_read}
use Rattle.xs_coarse_net.specs.Fragments.{IsCopied}
use Rattle.xs_coarse_net.specs.Reaching.{left_arc, left_arcs, left_net}
use Rattle.xs_coarse_net.proofs.Leftover.{row_left, row_each}
use Rattle.xs_coarse_net.proofs.Rows.{take_none, take_each, take_whole}
use Rattle.xs_coarse_net.proofs.Tracing.{reaches_none, reaches_on, copied_on, row_done}
use Rattle.xs_coarse_net.proofs.fragment.Tracer.copy_row.Goals as goal

pub arcs-init : goal.arcs-init
arcs-init c = record { reaches = reaches_none; copied = take_none (λ (x : Arc). (y : Arc) → Contains (left_arc c.args.has.now x) y → IsCopied c.args.self.now (c.args.place + 1) y) c.row-row.result.now }

pub arcs-preserved : goal.arcs-preserved
arcs-preserved c = record {
  reaches = reaches_on c.arcs.invariant.reaches c.in_ok-copy_left.ensures.reaches;
  copied = take_each (λ (x : Arc). (y : Arc) → Contains (left_arc c.args.has.now x) y → IsCopied _ (c.args.place + 1) y) c.row-row.result.now c.arcs.x-index _ c.arcs-test.true (λ x h y left. copied_on c.in_ok-copy_left.ensures.reaches (c.arcs.invariant.copied x h y left)) c.in_ok-copy_left.ensures.copied;
}

pub returns-clause-copied : goal.returns-clause-copied
returns-clause-copied c =
    let whole = c.args.whole.now in
    let has = c.args.has.now in
    let row = c.row-row.result.now in
    let each = row_each (IsCopied c.arcs.self (c.args.place + 1)) has row (λ x h. c.arcs.invariant.copied x (take_whole row c.arcs.x-index x c.arcs-test.false h)) in
    λ x label y at left. row_done (left_net has whole) c.arcs.self (c.args.place + 1) c.args.place c.index-state.result.now x c.args.self.now.order.items (left_arcs has row) c.requires.place (get_or_read c.args.self.now.order.items c.args.place c.index-state.result.now c.requires.place c.index-state.ensures 0) (row_left has whole c.index-state.result.now row c.row-row.ensures.complete) each at label y left
