use Rattle.std.proofs.Common.{◌∙◌, ◌++◌, ◌∷◌, [], Err, sym, ap, subst, length}
use Rattle.std.proofs.lemmas.Result.{err_from_is_err_and}
use Rattle.xs_forest.proofs.Labels.{once, none_has, found_has}
use Rattle.xs_forest.proofs.Pushed.{below_more, rows_push}
use Rattle.xs_forest.proofs.Refused.{repeated, not_refused, no_memory}
use Rattle.xs_forest.specs.Rows.{rows_of, AreEarlier}
use Rattle.xs_forest.proofs.forest.Forest.add_row.Goals as goal

pub returns-in-Some-clause-repeated : goal.returns-in-Some-clause-repeated
returns-in-Some-clause-repeated g c =
    let eq = g.L.PartialEq.eq in
    let itself = g.met.L.Eq.laws.refl in
    let entries = c.self.inside.rows.entries in
    rw (← c.self.view_is)
    (repeated (rows_of entries) c.args.label c.in-Some.at (once eq itself entries c.get_index_of.ensures.unique)
    (found_has eq itself g.met.L.Label.same entries c.args.label c.in-Some.at (sym c.in-Some.ensures.index)))

pub returns-in_err-alts-clause-repeated : goal.returns-in_err-alts-clause-repeated
returns-in_err-alts-clause-repeated g c =
    let entries = c.self.inside.rows.entries in
    let fault = err_from_is_err_and c.from_residual.result c.from_residual.ensures.1 in
    rw (← c.self.view_is)
    (no_memory (rows_of entries) c.args.label c.from_residual.result (fault.1 ∙ ap (λ e. Err e) fault.2)
    (none_has g.L.PartialEq.eq g.met.L.Eq.laws.refl entries c.args.label (sym c.in_default.ensures.found)))

pub returns-in_err-insert-clause-repeated : goal.returns-in_err-insert-clause-repeated
returns-in_err-insert-clause-repeated g c =
    let entries = c.self.inside.rows.entries in
    let answer = c.from_residual-in_err-insert.result in
    let fault = err_from_is_err_and answer c.from_residual-in_err-insert.ensures.1 in
    rw (← c.self.view_is)
    (no_memory (rows_of entries) c.args.label answer (fault.1 ∙ ap (λ e. Err e) fault.2)
    (none_has g.L.PartialEq.eq g.met.L.Eq.laws.refl entries c.args.label (sym c.in_default.ensures.found)))

pub returns-clause-repeated : goal.returns-clause-repeated
returns-clause-repeated g c =
    rw (← c.self.view_is)
    (not_refused (rows_of c.self.inside.rows.entries) c.args.label c.len-number.result
    (none_has g.L.PartialEq.eq g.met.L.Eq.laws.refl c.self.inside.rows.entries c.args.label (sym c.in_default.ensures.found)))

pub invariant_of-self-2 : goal.invariant_of-self-2
invariant_of-self-2 g c =
    let rows = rows_of c.self.inside.rows.entries in
    let pushed = rows_push g.L.PartialEq.eq c.self.inside.rows c.args.label c.in_ok-alts.alts c.insert.new.self.entries (sym c.in_default.ensures.found) c.in_ok-insert.ensures.entries in
    let earlier = subst (λ all. AreEarlier c.args.alts.now (length all)) (sym c.self.view_is) c.requires in
    rw (pushed, c.in_ok-alts.ensures) (below_more rows c.args.label c.args.alts.now c.self.invariant earlier)

pub returns-clause-added : goal.returns-clause-added
returns-clause-added g c =
    let rows = rows_of c.self.inside.rows.entries in
    let pushed = rows_push g.L.PartialEq.eq c.self.inside.rows c.args.label c.in_ok-alts.alts c.insert.new.self.entries (sym c.in_default.ensures.found) c.in_ok-insert.ensures.entries in
    rw (← c.self.view_is) (pushed ∙ ap (λ kept. rows ++ (c.args.label, kept) ∷ []) c.in_ok-alts.ensures)
