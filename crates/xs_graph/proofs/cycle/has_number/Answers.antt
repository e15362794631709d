use Rattle.std.proofs.Common.{◌∙◌, sym, get_or}
use Rattle.std.proofs.lemmas.Option.{get_or_from_slice_get}
use Rattle.xs_graph.proofs.Cycling.{number_more}
use Rattle.xs_graph.proofs.cycle.has_number.Goals as goal

pub targets-preserved : goal.targets-preserved
targets-preserved c =
    let targets = c.args.targets.now in
    let numbers = c.args.numbers.now in
    record {
      none = number_more targets numbers c.args.number c.targets.target-index c.targets-test.true (λ e. c.if-at-number.false (sym (get_or_from_slice_get numbers (get_or targets c.targets.target-index 0) c.at.result.now 0 c.at.ensures) ∙ e)) c.targets.invariant.none;
    }
