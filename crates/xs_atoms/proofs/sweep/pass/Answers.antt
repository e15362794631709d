use Rattle.std.proofs.Common.{length, refl, arith}
use Rattle.xs_atoms.proofs.Sweeping.{stays_at, moves_at, ends, begun}
use Rattle.xs_atoms.proofs.sweep.pass.Goals as goal
use Rattle.xs_atoms.proofs.sweep.pass.Goals.{then-start-turn+in_ok-push+else-not-branch, else-start-turn}

pub turns-init : goal.turns-init
turns-init c = begun c.args.turns.now (length c.args.row.now) c.args.row.now c.new-draft.result c.requires.wide refl c.requires.none c.new-draft.ensures.stretches c.new-draft.ensures.rows c.new-draft.ensures.firsts

pub turns-preserved : goal.turns-preserved
turns-preserved c = elim c.if-start-turn.branch [
  | then-start-turn+in_ok-push+else-not-branch w ↦
      rw (w.draft-is, w.start-is)
      (moves_at c.args.turns.now (length c.args.row.now) c.turns.turn-index c.turns.row c.turned.new.row c.turns.start c.turns.draft w.push.new.self _ c.requires.sorted c.requires.kept c.turns.invariant (omega arith) (omega arith) (w.in_ok-push.ensures w.if-not-branch.false) c.turned.ensures)
  | else-start-turn w ↦
      rw (w.draft-is, w.start-is)
      (stays_at c.args.turns.now (length c.args.row.now) c.turns.turn-index c.turns.row c.turned.new.row c.turns.start c.turns.draft _ c.turns.invariant (omega arith) w.if-start-turn.false c.turned.ensures)
]

pub returns : goal.returns
returns c = ends c.args.turns.now (length c.args.row.now) c.turns.turn-index c.turns.row c.turns.start c.turns.draft c.push-2.new.self c.requires.kept c.turns.invariant (omega arith) (c.in_ok-push-2.ensures c.if-not-branch-2.false)
