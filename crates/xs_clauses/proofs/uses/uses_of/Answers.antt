use Rattle.std.proofs.Common.{◌≡◌, ◌∙◌, ap, get_or, arith}
use Rattle.std.proofs.lemmas.List.{get_or_default}
use Rattle.xs_clauses.specs.declared.clause.Clause.{Clause}
use Rattle.xs_clauses.specs.Search.{clause_of, no_clause}
use Rattle.xs_clauses.proofs.Rows.{uses_more}
use Rattle.xs_clauses.proofs.uses.uses_of.Goals as goal

pub clauses-preserved : goal.clauses-preserved
clauses-preserved c =
    let clauses = c.args.clauses.now in
    let here : get_or clauses c.clauses.place c.index-clauses-place.result ≡ clause_of clauses c.clauses.place = get_or_default clauses c.clauses.place c.index-clauses-place.result no_clause (omega arith) in
    record {
      rows = c.in_ok-note.ensures.rows ∙ c.clauses.invariant.rows;
      all = uses_more clauses c.clauses.uses.items c.note.new.uses.items c.clauses.place c.as_slice.result.now (omega arith) (c.as_slice.ensures ∙ ap (λ (d : Clause). d.premises) here) c.in_ok-note.ensures c.clauses.invariant.all;
    }
