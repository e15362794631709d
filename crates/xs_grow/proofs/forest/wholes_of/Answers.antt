use Rattle.std.proofs.Common.{length, subst, List}
use Rattle.xs_grow.specs.Lists.{Appends}
use Rattle.xs_grow.specs.Candidates.{Candidate, WholeAt, InSets}
use Rattle.xs_grow.proofs.ListLemmas.{appends_all}
use Rattle.xs_grow.proofs.Charting.{places, wholes_stand}
use Rattle.xs_grow.proofs.forest.wholes_of.Goals as goal

pub wholes-requires : goal.wholes-requires
wholes-requires c = record { places = places c.args.g.now c.args.doc.now c.args.chart.now.sets c.requires.chart }

pub returns : goal.returns
returns c =
    let sets = c.args.chart.now.sets in
    let P = InSets (WholeAt c.args.g.now) sets (length sets) in
    wholes_stand c.args.g.now c.args.doc.now sets c.requires.chart c.wholes.new.candidates.items (appends_all P c.wholes.new.candidates.items (subst (λ (z : List Candidate). Appends P z c.wholes.new.candidates.items) c.new-marks.ensures.items c.in_ok-wholes.ensures))
