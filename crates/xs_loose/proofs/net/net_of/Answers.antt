use Rattle.std.proofs.lemmas.Result.{IfOk-weaker}
use Rattle.xs_loose.specs.Laws.{AcceptsLooseWords, IsSearchable}
use Rattle.xs_loose.specs.Nets.{IsNetOf}
use Rattle.xs_loose.specs.Parts.{part_items}
use Rattle.xs_loose.proofs.Stretches.{part_stretch}
use Rattle.xs_loose.proofs.Reading.{nets_accept_loose}
use Rattle.xs_loose.proofs.Taming.{nets_are_tame}
use Rattle.xs_loose.proofs.net.net_of.Goals as goal

pub returns-clause-loose : goal.returns-clause-loose
returns-clause-loose c =
    let g = c.args.g.now in
    let part = c.args.part.now in
    IfOk-weaker c.net_by.result (IsNetOf g part) (AcceptsLooseWords g (part_items g part)) (λ n is nest of w. nets_accept_loose g c.requires.built nest of part.rule part.start (part_items g part) n (part_stretch g part c.requires.part) is w) c.net_by.ensures.net

pub returns-clause-tame : goal.returns-clause-tame
returns-clause-tame c =
    let g = c.args.g.now in
    let part = c.args.part.now in
    IfOk-weaker c.net_by.result (IsNetOf g part) (IsSearchable g) (λ n is nest of. nets_are_tame g c.requires.built nest of part.rule part.start (part_items g part) n (part_stretch g part c.requires.part) is) c.net_by.ensures.net
