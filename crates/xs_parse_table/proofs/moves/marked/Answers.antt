use Rattle.std.proofs.Common.{sym, subst}
use Rattle.xs_regex.specs.Marked.{Marked}
use Rattle.xs_parse_table.proofs.Building.{number_pushed}
use Rattle.xs_parse_table.proofs.moves.marked.Goals as goal
use Rattle.xs_parse_table.proofs.moves.marked.Goals.{then-flag+in-Ok+in_ok-push, else-flag}

pub flags-preserved : goal.flags-preserved
flags-preserved c = elim c.if-flag.branch [
  | then-flag+in-Ok+in_ok-push w ↦
      rw w.list-is (number_pushed (λ k. Marked c.args.flags.now k) c.flags.list.items w.push.new.self.items w.in-Ok.position w.in_ok-push.ensures.items (subst (λ k. Marked c.args.flags.now k) (sym w.in-Ok.ensures.1) w.if-flag.true) c.flags.invariant)
  | else-flag w ↦ rw w.list-is c.flags.invariant
]
