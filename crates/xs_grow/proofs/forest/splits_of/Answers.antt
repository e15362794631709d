use Rattle.std.proofs.Common.{length, subst, List}
use Rattle.xs_grow.specs.Lists.{Appends}
use Rattle.xs_grow.specs.Candidates.{Candidate, FrontFrom, InSets, AreCallsOf}
use Rattle.xs_grow.proofs.ListLemmas.{appends_all}
use Rattle.xs_grow.proofs.Charting.{places, fronts_stand, no_fronts}
use Rattle.xs_grow.proofs.forest.splits_of.Goals as goal

pub fronts-requires-clause-places : goal.fronts-requires-clause-places
fronts-requires-clause-places c = places c.args.g.now c.args.doc.now c.args.chart.now.sets c.requires.chart

pub returns : goal.returns
returns c =
    let sets = c.args.chart.now.sets in
    let P = InSets (FrontFrom c.args.g.now c.args.doc.now c.in_ok-calls.calls) sets (length sets) in
    fronts_stand c.args.g.now c.args.doc.now sets c.requires.chart c.args.wholes.now c.requires.wholes c.in_ok-calls.calls (subst (λ (z : List Candidate). AreCallsOf z c.in_ok-calls.calls) c.in_ok-found.ensures c.in_ok-calls.ensures) c.fronts.new.candidates.items (appends_all P c.fronts.new.candidates.items (subst (λ (z : List Candidate). Appends P z c.fronts.new.candidates.items) c.new-marks.ensures.items c.in_ok-fronts.ensures))

pub returns-then-not-has_later : goal.returns-then-not-has_later
returns-then-not-has_later c = no_fronts c.args.g.now c.args.doc.now c.new.result.items c.new.ensures.items c.if-not-has_later.ensures
