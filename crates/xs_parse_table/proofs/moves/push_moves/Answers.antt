use Rattle.std.proofs.Common.{◌≡◌, ◌∙◌, ◌+◌, ◌*◌, suc, [], ◌∷◌, length, ap, arith}
use Rattle.xs_parse_table.proofs.Building.{choices_more, longer_again}
use Rattle.xs_parse_table.proofs.moves.push_moves.Goals as goal

pub atoms-preserved : goal.atoms-preserved
atoms-preserved c =
    let old = c.atoms.invariant in
    let width : c.count-count.result + 1 ≡ suc c.args.atoms.now.count = omega (arith, c.count-count.ensures.count) in (
      longer_again c.args.sets.now c.atoms.sets c.number.new.self old.0 c.in_ok-number.ensures.longer,
      longer_again c.args.cells.now.items c.atoms.cells.items c.push.new.self.items old.1 (c.in-Some.cell ∷ [], c.in_ok-push.ensures.items),
      omega (arith, c.in_ok-push.ensures.len, old.2),
      choices_more c.args.atoms.now c.args.classes.now c.args.may.now c.args.start c.atoms.sets c.number.new.self c.atoms.cells.items c.push.new.self.items (length c.args.cells.now.items) c.atoms.atom c.in_ok-number.number c.in-Some.cell c.choose.new.chosen.items
          old.3 c.in_ok-number.ensures.longer old.2 (rw c.deref.ensures.value at c.in_ok-number.ensures.there) (c.in-Some.ensures ∙ ap (λ n. c.args.start + suc c.in_ok-number.number * n) width) c.in_ok-choose.ensures c.in_ok-push.ensures.items,
    )
