use Rattle.std.proofs.Common.{sym, subst, IfOk}
use Rattle.xs_gram.specs.Grammar.{Grammar}
use Rattle.xs_check_laws.specs.Acceptance.{IsLight}
use Rattle.xs_cert.specs.Halves.{IsHalfReading}
use Rattle.xs_cert.proofs.Standing.{place_past}
use Rattle.xs_cert.proofs.Fronts.{text_place, no_xml_read, all_result}
use Rattle.xs_cert.proofs.certifying.read_xml.Goals as goal

pub title-requires : goal.title-requires
title-requires c = text_place c.requires.text

pub returns-in_default : goal.returns-in_default
returns-in_default c = no_xml_read c.args.two.now c.args.bytes.now c.args.place c.requires.text (rw c.in_default.is at c.title.ensures.none)

pub read_side-requires-clause-light : goal.read_side-requires-clause-light
read_side-requires-clause-light c = subst (λ (g : Grammar). IsLight g) (sym c.gram.ensures) c.requires.light

pub read_side-requires-clause-place : goal.read_side-requires-clause-place
read_side-requires-clause-place c = place_past (text_place c.requires.text) c.in-Some.ensures.some

pub returns : goal.returns
returns c =
    all_result c.args.two.now c.args.bytes.now c.args.place c.requires.text c.in-Some.start c.in-Some.ensures.some c.read_side.result
    (subst (λ (g : Grammar). IfOk c.read_side.result (IsHalfReading g c.args.bytes.now c.in-Some.start)) c.gram.ensures c.read_side.ensures)
