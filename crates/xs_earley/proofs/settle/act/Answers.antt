use Rattle.std.proofs.Common.{◌≢◌, ◌∙◌, subst, arith}
use Rattle.xs_gram.specs.declared.places.Place.{Place}
use Rattle.xs_gram.specs.Places.{all_places}
use Rattle.xs_chart_laws.specs.Steps.{IsSettled}
use Rattle.xs_chart_laws.specs.Charts.{HasPlace}
use Rattle.xs_chart_laws.proofs.Numbers.{one_place}
use Rattle.xs_chart_laws.proofs.Words.{get_lt}
use Rattle.xs_earley.specs.Adding.{IsOf, Passes}
use Rattle.xs_earley.proofs.Completing.{waiting_same}
use Rattle.xs_earley.proofs.Growths.{exact_same, put_item_more}
use Rattle.xs_earley.proofs.Predicting.{next_later, called_kept}
use Rattle.xs_earley.proofs.Queues.{waited_after}
use Rattle.xs_earley.proofs.Settlings.{row_is, non_there, row_grown, row_settled}
use Rattle.xs_earley.proofs.settle.act.Goals as goal

pub lead-requires-clause-stand : goal.lead-requires-clause-stand
lead-requires-clause-stand c non e =
    let st = c.requires.stands in
    let is = row_is c.args.g.now c.args.facts.now c.requires.facts c.args.item.state st.0 st.1 c.args.row c.requires.row in
    non_there c.args.g.now c.args.facts.now.letters.items c.requires.built st.0 c.args.row.stand non is.stand e

pub lead-requires-clause-called : goal.lead-requires-clause-called
lead-requires-clause-called c =
    let st = c.requires.stands in
    let g = c.args.g.now in
    let is = row_is g c.args.facts.now c.requires.facts c.args.item.state st.0 st.1 c.args.row c.requires.row in
    called_kept g c.args.at (Passes g st.0 c.args.item.origin) c.args.chart.now.sets c.pass.new.chart.sets c.args.called.now (λ d i h. next_later d st.0 h.1.0) (c.in_ok-pass.ensures.adds g c.args.facts.now.letters.items st.0 is) c.requires.called

pub lead-requires-clause-last : goal.lead-requires-clause-last
lead-requires-clause-last c =
    let st = c.requires.stands in
    let g = c.args.g.now in
    let is = row_is g c.args.facts.now c.requires.facts c.args.item.state st.0 st.1 c.args.row c.requires.row in
    (c.in_ok-pass.ensures.adds g c.args.facts.now.letters.items st.0 is).puts.counted ∙ c.requires.open.last

pub lead-requires-clause-waiting : goal.lead-requires-clause-waiting
lead-requires-clause-waiting c non lt =
    let st = c.requires.stands in
    let g = c.args.g.now in
    let is = row_is g c.args.facts.now c.requires.facts c.args.item.state st.0 st.1 c.args.row c.requires.row in
    let adds = c.in_ok-pass.ensures.adds g c.args.facts.now.letters.items st.0 is in
    let ne : c.args.item.origin ≢ c.args.at = omega arith in
    exact_same g c.args.chart.now c.pass.new.chart c.args.item.origin non (adds.puts.others c.args.item.origin ne) (waiting_same c.args.chart.now c.pass.new.chart c.args.item.origin non c.pass.ensures.waits) (c.requires.open.waiting c.args.item.origin non lt)

pub lead-requires-clause-item : goal.lead-requires-clause-item
lead-requires-clause-item c =
    let st = c.requires.stands in
    let g = c.args.g.now in
    let is = row_is g c.args.facts.now c.requires.facts c.args.item.state st.0 st.1 c.args.row c.requires.row in
    let adds = c.in_ok-pass.ensures.adds g c.args.facts.now.letters.items st.0 is in
    put_item_more c.args.at (IsOf g (Passes g st.0 c.args.item.origin)) c.args.chart.now.sets c.pass.new.chart.sets adds.puts c.args.k c.args.item c.requires.item

pub lead-requires-clause-number : goal.lead-requires-clause-number
lead-requires-clause-number c = get_lt (all_places c.args.g.now) c.args.item.state c.requires.stands.0 c.requires.stands.1

pub returns-clause-grown : goal.returns-clause-grown
returns-clause-grown c =
    let st = c.requires.stands in
    let g = c.args.g.now in
    let is = row_is g c.args.facts.now c.requires.facts c.args.item.state st.0 st.1 c.args.row c.requires.row in
    row_grown g c.args.doc.now c.requires.built c.args.facts.now.letters.items c.args.at st.0 c.args.item.origin st.2 c.args.row is c.args.chart.now.sets c.pass.new.chart.sets c.lead.new.chart.sets c.requires.open.stand (c.in_ok-pass.ensures.adds g c.args.facts.now.letters.items st.0 is) c.in_ok-lead.ensures.adds

pub returns-clause-settled : goal.returns-clause-settled
returns-clause-settled c place num =
    let st = c.requires.stands in
    let g = c.args.g.now in
    let is = row_is g c.args.facts.now c.requires.facts c.args.item.state st.0 st.1 c.args.row c.requires.row in
    let settled = row_settled g c.args.doc.now c.requires.built c.args.facts.now.letters.items c.args.at st.0 c.args.item.origin st.2 c.args.row is c.args.chart.now.sets c.pass.new.chart.sets c.lead.new.chart.sets c.requires.open.stand (c.in_ok-pass.ensures.adds g c.args.facts.now.letters.items st.0 is) c.in_ok-lead.ensures.adds in
    subst (λ (p : Place). IsSettled g (HasPlace g c.lead.new.chart.sets) c.args.at p c.args.item.origin) (one_place g c.args.item.state st.0 place st.1 num) settled

pub returns-clause-waited : goal.returns-clause-waited
returns-clause-waited c = waited_after c.args.g.now c.args.chart.now c.pass.new.chart c.lead.new.chart c.args.at c.args.k c.args.item.state c.pass.ensures.waits c.in_ok-lead.ensures.waited
