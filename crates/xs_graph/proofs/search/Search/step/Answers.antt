use Rattle.std.proofs.Common.{◌<◌, sym, subst, length, arith}
use Rattle.xs_graph.specs.States.{State, state_of, with_frame, IsStep}
use Rattle.xs_graph.proofs.Stepping.{waiting_visited, step_followed, step_merged, step_closed}
use Rattle.xs_graph.proofs.search.Search.step.Goals as goal

pub close-requires-clause-nodes : goal.close-requires-clause-nodes
close-requires-clause-nodes c = waiting_visited c.args.graph.now (state_of c.args.self.now) c.args.frame c.requires.state

pub returns-in_ok-follow : goal.returns-in_ok-follow
returns-in_ok-follow c =
    let graph = c.args.graph.now in
    let old = state_of c.args.self.now in
    let f = c.args.frame in
    let l : f.next < length c.at-targets.result.now = omega (arith, c.len.ensures, c.if-frame-len.true) in
    subst (λ (x : State). IsStep graph (with_frame f old) x) (sym c.in_ok-follow.ensures) (step_followed graph old f c.at-targets.result.now c.at-target.result.now c.requires.targets c.requires.state c.at-targets.ensures l c.at-target.ensures)

pub returns-then-frame : goal.returns-then-frame
returns-then-frame c = subst (λ (x : State). IsStep c.args.graph.now (with_frame c.args.frame (state_of c.args.self.now)) x) (sym c.merge.ensures) (step_merged c.args.graph.now (state_of c.args.self.now) c.args.frame c.at-targets.result.now c.requires.state c.at-targets.ensures (omega (arith, c.len.ensures, c.if-frame-len.false)) c.if-frame.true)

pub returns-else-frame : goal.returns-else-frame
returns-else-frame c = subst (λ (x : State). IsStep c.args.graph.now (with_frame c.args.frame (state_of c.args.self.now)) x) (sym c.close.ensures) (step_closed c.args.graph.now (state_of c.args.self.now) c.args.frame c.at-targets.result.now c.requires.state c.at-targets.ensures (omega (arith, c.len.ensures, c.if-frame-len.false)) c.if-frame.false)
