use Rattle.std.proofs.Common.{arith}
use Rattle.std.proofs.lemmas.List.{take_all}
use Rattle.xs_loose.proofs.Growing.{grows_none}
use Rattle.xs_loose.proofs.Pushing.{on_more, row_is, row_leads}
use Rattle.xs_loose.proofs.blocks.read_follows.Goals as goal

pub positions-init : goal.positions-init
positions-init c = grows_none c.args.net.now

pub read_all-requires-clause-targets : goal.read_all-requires-clause-targets
read_all-requires-clause-targets c = λ k h. c.requires.formed.follow_in c.positions.position k (row_leads c.args.automaton.now c.positions.position k c.at.result.now c.at.ensures (rw c.as_slice-targets.ensures at h))

pub positions-preserved : goal.positions-preserved
positions-preserved c =
    let p = c.args.automaton.now in
    let step = rw c.as_slice-targets.ensures at c.in_ok-read_all.ensures in
    on_more p c.args.first p.follow c.positions.position c.at.result.now c.args.net.now c.positions.net _ (omega (arith, c.positions-test.true)) (row_is p.follow c.positions.position c.at.result.now c.at.ensures) c.positions.invariant step

pub returns : goal.returns
returns c = rw (take_all c.positions.position c.args.automaton.now.follow (omega (arith, c.positions-test.false))) at c.positions.invariant
