use Rattle.std.proofs.Common.{List, ◌+◌, sym, subst}
use Rattle.xs_earley.specs.declared.rows.Row.{Row}
use Rattle.xs_earley.specs.Facts.{AreRows}
use Rattle.xs_earley.proofs.Rowings.{rows_more}
use Rattle.xs_earley.proofs.rows.rows_of.Goals as goal

pub places-preserved : goal.places-preserved
places-preserved c =
    let g = c.args.g.now in
    let ens = c.in_ok-row.ensures in
    subst (λ (rows : List Row). AreRows g c.row_of.new.letters.items (c.places.number + 1) rows) (sym c.in_ok-push.ensures.items) (rows_more g c.places.letters.items ens.letters.0 c.row_of.new.letters.items c.places.number c.places.rows.items c.place.result c.in_ok-row.row c.places.invariant ens.letters.1 c.place.ensures.listed ens.row)
