use Rattle.std.proofs.Common.{subst}
use Rattle.xs_gram.specs.declared.places.Place.{Place}
use Rattle.xs_chart_laws.specs.Charts.{IsNumber}
use Rattle.xs_earley.specs.declared.rows.Row.{Row}
use Rattle.xs_earley.proofs.Rowings.{row_made}
use Rattle.xs_earley.proofs.rows.row_of.Goals as goal

pub returns-in_ok-stand-in-Some-clause-row : goal.returns-in_ok-stand-in-Some-clause-row
returns-in_ok-stand-in-Some-clause-row c =
    let g = c.args.g.now in
    let row : Row = record { stand = c.in_ok-stand-in-Some.stand; base = c.number-base.result; next = c.number-next.result; passes = c.is_passed-passes.result } in
    row_made g c.stand_of.new.letters.items c.args.place c.in-Some.item.now row c.requires.place c.in-Some.ensures c.in_ok-stand-in-Some.ensures.stand c.number-base.ensures.found (subst (λ (p : Place). IsNumber g c.number-next.result p) c.after.ensures.is c.number-next.ensures.found) c.is_passed-passes.ensures
