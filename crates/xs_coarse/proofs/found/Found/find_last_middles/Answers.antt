use Rattle.std.proofs.Common.{ℕ, ◌+◌, ◌<◌, ◌≤◌, arith}
use Rattle.std.proofs.lemmas.Result.{IfOk-weaker}
use Rattle.xs_coarse.specs.Arcs.{HasFound}
use Rattle.xs_coarse.specs.Found.{IsMore}
use Rattle.xs_coarse.proofs.FoundLemmas.{begun, more_for}
use Rattle.xs_coarse.proofs.GrowthLemmas.{more_same}
use Rattle.xs_coarse.proofs.LayerLemmas.{LooksAt, looks_of, last_middles_from}
use Rattle.xs_coarse.proofs.found.Found.find_last_middles.Goals as goal
use Rattle.xs_coarse.proofs.found.Found.find_last_middles.Goals.{then-gate-gt0+in_ok-seed_firsts, else-gate-gt0}

pub close-requires-clause-nets : goal.close-requires-clause-nets
close-requires-clause-nets c =
    let net = c.args.net.now in
    let nets = begun net net c.begin.new.self (c.args.here + 1) c.len-states.result c.in_ok-begin.field-0 c.if-not-branch.false c.in_ok-begin.ensures.ok (omega (arith, c.requires.here)) (omega (arith, c.len-states.ensures.states)) in
    let stepped = more_for net net c.begin.new.self c.seed_steps.new.self nets c.seed_steps.ensures.more in
    elim c.if-gate-gt0.branch [
      | then-gate-gt0+in_ok-seed_firsts w ↦ rw w.self-is (more_for net net c.seed_steps.new.self w.seed_firsts.new.self stepped w.seed_firsts.ensures.more)
      | else-gate-gt0 w ↦ rw w.self-is stepped
    ]

pub close-requires-clause-fits : goal.close-requires-clause-fits
close-requires-clause-fits c = elim c.if-gate-gt0.branch [
  | then-gate-gt0+in_ok-seed_firsts w ↦ rw w.self-is w.seed_firsts.ensures.more.fits
  | else-gate-gt0 w ↦ rw w.self-is c.seed_steps.ensures.more.fits
]

pub returns-clause-ok : goal.returns-clause-ok
returns-clause-ok c =
    let looks : LooksAt (c.args.here + 1) c.args.net.now.states c.begin.new.self = rw (← c.len-states.ensures.states) (looks_of (c.in_ok-begin.ensures.ok c.if-not-branch.false)) in
    let entered : IsMore c.seed_steps.new.self c.if-gate-gt0.self = elim c.if-gate-gt0.branch [
      | then-gate-gt0+in_ok-seed_firsts w ↦ rw w.self-is w.seed_firsts.ensures.more
      | else-gate-gt0 w ↦ rw w.self-is (more_same c.seed_steps.new.self c.seed_steps.ensures.more.fits)
    ] in
    let enters : 0 < c.args.gate → (b : ℕ) → c.args.here + 1 ≤ b → b < c.args.net.now.states → HasFound c.if-gate-gt0.self c.args.gate b = λ some. elim c.if-gate-gt0.branch [
      | then-gate-gt0+in_ok-seed_firsts w ↦ rw w.self-is (λ b from below. w.in_ok-seed_firsts.ensures.ok b from (omega (arith, below, c.len-states.ensures.states)))
      | else-gate-gt0 w ↦ absurd (omega (arith, some, w.if-gate-gt0.false))
    ] in
    IfOk-weaker c.close.result _ _ (λ closed shut yes. last_middles_from c.args.labels.now c.args.net.now c.args.gate c.args.here c.args.pairs.now _ looks c.seed_steps.ensures.more entered c.close.ensures.more c.requires.gate c.requires.pairs c.in_ok-seed_steps.ensures.ok enters (shut yes)) c.close.ensures.ok
