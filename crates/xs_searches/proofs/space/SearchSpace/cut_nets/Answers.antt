use Rattle.std.proofs.Common.{arith}
use Rattle.std.proofs.lemmas.Result.{IfOk-weaker}
use Rattle.xs_searches.proofs.Cutting.{cut_nets_accept}
use Rattle.xs_searches.proofs.space.SearchSpace.cut_nets.Goals as goal

pub returns : goal.returns
returns c =
    let g = c.args.self.now.site.g.now in
    let space = c.requires.space in
    IfOk-weaker c.cut_nets.result _ _ (λ nets are. cut_nets_accept g space.site.built c.args.rule c.args.place are.start are.end c.requires.rule are.at c.args.self.now.nest space.nest c.nets_accept_loose.ensures c.nets_are_tame.ensures c.cuts_are_one.ensures (omega (arith, c.requires.place)) nets are.front are.rest) c.cut_nets.ensures
