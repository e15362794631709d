use Rattle.std.proofs.Common.{get_or, arith}
use Rattle.std.proofs.lemmas.List.Elements.{Contains-get_or}
use Rattle.std.specs.Prelude.{Contains, IsTrue, slice_index_or}
use Rattle.xs_atoms.specs.Alphabet.{class_has}
use Rattle.xs_parse_table.proofs.Building.{number_pushed}
use Rattle.xs_parse_table.proofs.moves.choose.Goals as goal
use Rattle.xs_parse_table.proofs.moves.choose.Goals.{then-is_taken+in_ok-push, else-is_taken}

pub may-preserved : goal.may-preserved
may-preserved c = elim c.if-is_taken.branch [
  | then-is_taken+in_ok-push w ↦
      rw w.chosen-is
      (number_pushed (λ k. Contains c.args.may.now k × IsTrue (class_has c.args.atoms.now (slice_index_or c.args.classes.now k 0) c.args.atom)) c.may.chosen.items w.push.new.self.items (get_or c.args.may.now c.may.position-index 0) w.in_ok-push.ensures.items
      (Contains-get_or c.args.may.now c.may.position-index 0 (omega arith), rw c.in-Ok.ensures.1 at (c.is_taken.ensures w.if-is_taken.true)) c.may.invariant)
  | else-is_taken w ↦ rw w.chosen-is c.may.invariant
]
