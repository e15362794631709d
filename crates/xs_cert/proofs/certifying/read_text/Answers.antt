use Rattle.std.proofs.Common.{sym, subst, IfOk}
use Rattle.xs_gram.specs.Grammar.{Grammar}
use Rattle.xs_check_laws.specs.Acceptance.{IsLight}
use Rattle.xs_cert.specs.Halves.{IsHalfReading}
use Rattle.xs_cert.proofs.Fronts.{none_read, no_side_read, text_result}
use Rattle.xs_cert.proofs.certifying.read_text.Goals as goal

pub returns-in_default : goal.returns-in_default
returns-in_default c = none_read c.args.two.now c.args.bytes.now (rw c.in_default.is at c.title.ensures.none)

pub returns-in_default-title : goal.returns-in_default-title
returns-in_default-title c = no_side_read c.args.two.now c.args.bytes.now c.in-Some.version c.in-Some.ensures.some (rw c.in_default-title.is at c.title-2.ensures.none)

pub read_side-requires-clause-light : goal.read_side-requires-clause-light
read_side-requires-clause-light c = subst (λ (g : Grammar). IsLight g) (sym c.gram.ensures) c.requires.light

pub returns : goal.returns
returns c =
    text_result c.args.two.now c.args.bytes.now c.in-Some.version c.in-Some.ensures.some c.in-Some-title.place c.in-Some-title.ensures.some c.read_side.result
    (subst (λ (g : Grammar). IfOk c.read_side.result (IsHalfReading g c.args.bytes.now c.in-Some-title.place)) c.gram.ensures c.read_side.ensures)
