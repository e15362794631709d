use Rattle.std.proofs.Common.{refl}
use Rattle.xs_meet.specs.Sharing.{AreKnown}
use Rattle.xs_meet.proofs.PhaseLemmas.{ends_apart, ends_pieces, ends_within, follows_chained}
use Rattle.xs_meet.proofs.meet.meet_pieces.Goals as goal

pub returns-in-None-clause-none : goal.returns-in-None-clause-none
returns-in-None-clause-none c = ends_apart (AreKnown c.args.shared.now) c.args.a.now c.args.b.now c.in_ok-layer.layer c.close_until.new.self c.in_ok-layer.ensures.only c.in_ok-close_until.ensures.follows (record { closed = rw c.in-None.is at c.in_ok-close_until.ensures.closed; none = (rw c.in-None.is at c.in_ok-close_until.ensures.none) refl })

pub read_trace-requires-clause-chained : goal.read_trace-requires-clause-chained
read_trace-requires-clause-chained c = follows_chained (AreKnown c.args.shared.now) c.args.a.now c.args.b.now c.in_ok-layer.layer c.close_until.new.self c.in_ok-close_until.ensures.follows

pub read_trace-requires-clause-place : goal.read_trace-requires-clause-place
read_trace-requires-clause-place c = ends_within c.args.a.now c.args.b.now c.close_until.new.self.steps.items c.in-Some.place ((rw c.in-Some.is at c.in_ok-close_until.ensures.some).1)

pub returns-clause-some : goal.returns-clause-some
returns-clause-some c = ends_pieces (AreKnown c.args.shared.now) c.args.a.now c.args.b.now c.in_ok-layer.layer c.close_until.new.self c.in-Some.place c.in_ok-found-in-Some.found c.in_ok-layer.ensures.only c.in_ok-close_until.ensures.follows ((rw c.in-Some.is at c.in_ok-close_until.ensures.some).1) c.in_ok-found-in-Some.ensures
