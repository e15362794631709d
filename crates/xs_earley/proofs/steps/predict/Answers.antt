use Rattle.std.proofs.Common.{◌<◌, ◌∙◌, Bool, List, length, sym, subst}
use Rattle.std.specs.Prelude.{Contains}
use Rattle.xs_chart.specs.Charted.{items_of, item_from}
use Rattle.xs_earley.specs.Adding.{AreCalled}
use Rattle.xs_earley.proofs.Additions.{last_at}
use Rattle.xs_earley.proofs.Predicting.{starts_absent, calls_made, called_more}
use Rattle.xs_earley.proofs.steps.predict.Goals as goal

pub append_all-requires-clause-absent : goal.append_all-requires-clause-absent
append_all-requires-clause-absent c state among there =
    let chart = c.args.chart.now in
    let at = c.args.at in
    starts_absent c.args.g.now at c.args.non chart.sets c.args.called.now c.requires.called (sym c.has.ensures ∙ c.if-has.false) at state ((c.starts.ensures.is state).0 among) (subst (λ k. Contains (items_of chart k) (item_from at state)) (last_at chart at c.requires.last) there)

pub returns-clause-adds : goal.returns-clause-adds
returns-clause-adds c = calls_made c.args.g.now c.args.at c.args.non c.starts.result.now c.args.chart.now c.append_all.new.self c.starts.ensures.is c.requires.last c.in_ok-append_all.ensures.last

pub returns-clause-called : goal.returns-clause-called
returns-clause-called c =
    let lt : c.args.non < length c.args.called.now = subst (λ n. c.args.non < n) (sym c.requires.marks) c.requires.non in
    subst (λ (l : List Bool). AreCalled c.args.g.now c.args.at c.append_all.new.self.sets l) (sym c.mark.ensures) (called_more c.args.g.now c.args.at c.args.non c.args.chart.now.sets c.append_all.new.self.sets c.args.called.now lt (returns-clause-adds c) c.requires.called)
