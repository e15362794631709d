use Rattle.std.proofs.Common.{◌≡◌, ◌∙◌, Some, sym, ap, List, ℕ}
use Rattle.std.specs.Prelude.{slice_get}
use Rattle.std.specs.Cmp.Lexicographic.{bytes_decides}
use Rattle.xs_outline.specs.Shapes.{names_of}
use Rattle.xs_outline.proofs.SlotTables.{name_inserted}
use Rattle.xs_outline.proofs.slot_table.names_in.Goals as goal

pub slots-preserved : goal.slots-preserved
slots-preserved c =
    let at : slice_get (names_of c.args.two.now c.args.rule) c.slots.slot ≡ Some c.in_ok-name.name.items = c.slot_name.ensures ∙ ap (λ (z : List ℕ). Some z) (sym c.in_ok-name.ensures) in
    name_inserted _ c.slots.names.keys c.insert.new.self.keys c.in_ok-name.name (names_of c.args.two.now c.args.rule) c.slots.slot c.in_ok-insert.ensures.keys
    (λ k e. sym ((bytes_decides c.in_ok-name.name.items k.items).0 e)) c.slots.invariant at (c.requires.distinct c.args.rule c.slots.slot c.in_ok-name.name.items at)
