use Rattle.std.proofs.Common.{Err, ap, ◌∙◌}
use Rattle.xs_forest.specs.declared.fault.AddFault.{AddFault}
use Rattle.xs_grow.proofs.Growing.{earlier, grown_more}
use Rattle.xs_grow.proofs.rows.add.Goals as goal

pub add_row-requires : goal.add_row-requires
add_row-requires c =
    let s = c.args.source.now in
    let k = c.args.key in
    earlier s.g.now s.doc.now c.args.forest.now k.what k.start k.end c.requires.label c.args.numbers.now c.requires.numbers c.args.alts.now c.requires.made

pub returns-in-Ok-clause-grown : goal.returns-in-Ok-clause-grown
returns-in-Ok-clause-grown c =
    let s = c.args.source.now in
    let k = c.args.key in
    grown_more s.g.now s.doc.now c.args.forest.now k.what k.start k.end c.requires.label c.args.numbers.now c.requires.numbers c.args.alts.now c.requires.made c.requires.rowless c.add_row.new.self c.in-Ok.ensures.added c.requires.grown

pub unreachable-requires : goal.unreachable-requires
unreachable-requires c =
    let at = c.in-Err-Repeated.field-0-0 in
    c.requires.rowless at ((c.add_row.ensures.repeated at).0 (c.in-Err-Repeated.is ∙ ap (λ (e : AddFault). Err e) c.in-Err-Repeated.field-0-is))
