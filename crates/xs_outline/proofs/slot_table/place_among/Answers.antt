use Rattle.std.proofs.Common.{◌∙◌, ℕ, Some, List, sym, ap, arith}
use Rattle.xs_class.proofs.Places.{first_is_found, nowhere_is_none}
use Rattle.xs_outline.specs.Tables.{name_list}
use Rattle.xs_outline.proofs.SlotTables.{name_at, no_name_more, name_below}
use Rattle.xs_outline.proofs.slot_table.place_among.Goals as goal

pub returns-then-is_same : goal.returns-then-is_same
returns-then-is_same c =
    let at = name_at c.args.names.now c.names.place c.index-names-place.result (omega arith) c.index-names-place.is in
    let same = rw c.if-is_same.true at c.is_same.ensures in
    sym (first_is_found (name_list c.args.names.now) c.args.name.now c.names.place (at ∙ ap (λ (z : List ℕ). Some z) (sym c.as_slice.ensures.value ∙ same)) c.names.invariant)

pub names-preserved : goal.names-preserved
names-preserved c =
    no_name_more c.args.names.now c.names.place c.index-names-place.result c.args.name.now (omega arith) c.index-names-place.is
    (λ e. (rw c.if-is_same.false at c.is_same.ensures) (c.as_slice.ensures.value ∙ e)) c.names.invariant

pub returns : goal.returns
returns c = sym (nowhere_is_none (name_list c.args.names.now) c.args.name.now (λ j at. c.names.invariant j (let lt = name_below c.args.names.now j c.args.name.now at in omega (arith, lt)) at))
