use Rattle.std.proofs.Common.{◌≡◌, ◌∙◌, reverse, refl, ap, arith}
use Rattle.xs_meet.specs.Sharing.{AreKnown}
use Rattle.xs_meet.proofs.SpreadLemmas.{read_at}
use Rattle.xs_meet.proofs.TraceLemmas.{traced_none, traced_piece, traced_move, reverse_push, stepped}
use Rattle.xs_meet.proofs.PhaseLemmas.{there_at}
use Rattle.xs_meet.proofs.trace.read_trace.Goals as goal

pub links-init : goal.links-init
links-init c =
    let steps = c.args.layer.now.steps.items in
    let here = there_at steps c.args.place c.requires.place in
    record { within = c.requires.place; traced = rw c.new-pieces.ensures.items (traced_none (AreKnown c.args.shared.now) c.args.first.now c.args.second.now steps c.args.place here.0 here.1) }

pub index-parent-requires : goal.index-parent-requires
index-parent-requires c =
    let steps = c.args.layer.now.steps in
    let s = c.index-step.result.now in
    let here = read_at steps.items c.links.at s c.links.invariant.within c.index-step.ensures in
    let link = c.requires.chained c.links.at s c.links-test.true here in
    omega (arith, link.earlier, c.links.invariant.within, steps.ok)

pub piece_between-requires-clause-first : goal.piece_between-requires-clause-first
piece_between-requires-clause-first c = (c.requires.range _ _ (stepped (AreKnown c.args.shared.now) c.index-step.result.now c.index-parent.result.now c.requires.chained c.links-test.true c.links.invariant.within c.index-step.ensures c.index-parent.ensures).up).0

pub piece_between-requires-clause-second : goal.piece_between-requires-clause-second
piece_between-requires-clause-second c = (c.requires.range _ _ (stepped (AreKnown c.args.shared.now) c.index-step.result.now c.index-parent.result.now c.requires.chained c.links-test.true c.links.invariant.within c.index-step.ensures c.index-parent.ensures).up).1

pub links-smaller-in_ok-push-in-Some : goal.links-smaller-in_ok-push-in-Some
links-smaller-in_ok-push-in-Some c = (stepped (AreKnown c.args.shared.now) c.index-step.result.now c.index-parent.result.now c.requires.chained c.links-test.true c.links.invariant.within c.index-step.ensures c.index-parent.ensures).link.earlier

pub links-preserved-in_ok-push-in-Some : goal.links-preserved-in_ok-push-in-Some
links-preserved-in_ok-push-in-Some c =
    let on = stepped (AreKnown c.args.shared.now) c.index-step.result.now c.index-parent.result.now c.requires.chained c.links-test.true c.links.invariant.within c.index-step.ensures c.index-parent.ensures in
    let word : reverse c.push.new.self.items ≡ _ = ap reverse c.in_ok-push-in-Some.ensures.items ∙ reverse_push c.links.pieces.items c.in-Some.piece in
    record { within = on.within; traced = rw word (traced_piece (AreKnown c.args.shared.now) c.in-Some.piece _ _ on.here on.up c.in-Some.ensures.some c.links.invariant.traced) }

pub links-smaller : goal.links-smaller
links-smaller c = (stepped (AreKnown c.args.shared.now) c.index-step.result.now c.index-parent.result.now c.requires.chained c.links-test.true c.links.invariant.within c.index-step.ensures c.index-parent.ensures).link.earlier

pub links-preserved : goal.links-preserved
links-preserved c =
    let on = stepped (AreKnown c.args.shared.now) c.index-step.result.now c.index-parent.result.now c.requires.chained c.links-test.true c.links.invariant.within c.index-step.ensures c.index-parent.ensures in
    record { within = on.within; traced = traced_move (AreKnown c.args.shared.now) _ _ on.here on.up on.link refl c.in-None.ensures.none c.links.invariant.traced }
