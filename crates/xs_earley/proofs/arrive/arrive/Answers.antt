use Rattle.std.proofs.Common.{◌<◌, ◌^◌, sym, ◌∙◌, ap, arith}
use Rattle.xs_earley.specs.declared.rows.Row.{Row}
use Rattle.xs_earley.proofs.Arrivals.{word_few, term_there, term_room, term_told, skip_there, skip_room, skip_told}
use Rattle.xs_earley.proofs.arrive.arrive.Goals as goal

pub term-requires : goal.term-requires
term-requires c = term_there c.args.g.now c.args.facts.now c.requires.built c.requires.facts c.args.item.state c.requires.state c.in-AtTerm.term (sym (ap (λ (r : Row). r.stand) c.row-row.ensures) ∙ c.in-AtTerm.is)

pub go_on-requires-clause-room : goal.go_on-requires-clause-room
go_on-requires-clause-room c = rw (c.row-row.ensures, c.term.ensures) (term_room c.args.g.now c.args.facts.now c.requires.built c.requires.facts c.args.item.state c.requires.state c.in-AtTerm.term (sym (ap (λ (r : Row). r.stand) c.row-row.ensures) ∙ c.in-AtTerm.is))

pub go_on-requires-clause-told : goal.go_on-requires-clause-told
go_on-requires-clause-told c = rw (c.row-row.ensures, c.term.ensures) (term_told c.args.g.now c.args.facts.now c.requires.built c.requires.facts c.args.item.state c.requires.state c.in-AtTerm.term c.args.symbol c.args.atom c.term_classes.result.now (sym (ap (λ (r : Row). r.stand) c.row-row.ensures) ∙ c.in-AtTerm.is) c.requires.atom c.term_classes.ensures)

pub skip-requires : goal.skip-requires
skip-requires c = skip_there c.args.g.now c.args.facts.now c.requires.built c.requires.facts c.args.item.state c.requires.state c.in-AtSkip.skip (sym (ap (λ (r : Row). r.stand) c.row-row.ensures) ∙ c.in-AtSkip.is)

pub go_on-requires-in-AtSkip-clause-room : goal.go_on-requires-in-AtSkip-clause-room
go_on-requires-in-AtSkip-clause-room c = rw (c.row-row.ensures, c.skip.ensures) (skip_room c.args.g.now c.args.facts.now c.requires.built c.requires.facts c.args.item.state c.requires.state c.in-AtSkip.skip (sym (ap (λ (r : Row). r.stand) c.row-row.ensures) ∙ c.in-AtSkip.is))

pub go_on-requires-in-AtSkip-clause-told : goal.go_on-requires-in-AtSkip-clause-told
go_on-requires-in-AtSkip-clause-told c = rw (c.row-row.ensures, c.skip.ensures) (skip_told c.args.g.now c.args.facts.now c.requires.built c.requires.facts c.args.item.state c.requires.state c.in-AtSkip.skip c.args.symbol c.args.atom c.skip_classes.result.now (sym (ap (λ (r : Row). r.stand) c.row-row.ensures) ∙ c.in-AtSkip.is) c.requires.atom c.skip_classes.ensures)

pub read_letter-requires : goal.read_letter-requires
read_letter-requires c =
    let counted = c.requires.facts.rows.counted in
    let state = c.requires.state in
    let few : c.in-AtWord.from < 2 ^ 63 = word_few c.args.g.now c.args.facts.now c.requires.facts c.args.item.state (omega (arith, state, counted)) c.in-AtWord.from c.in-AtWord.end (sym (ap (λ (r : Row). r.stand) c.row-row.ensures) ∙ c.in-AtWord.is) in
    omega (arith, few)
