use Rattle.xs_wf.specs.Nonterminals.{IsLooping}
use Rattle.xs_wf.proofs.Firsts.{first_line_is}
use Rattle.xs_wf.proofs.nonterminals.least_loop.Goals as goal

pub returns-clause-first : goal.returns-clause-first
returns-clause-first c =
    first_line_is c.args.two.now (IsLooping c.args.two.now) (IsLooping c.args.two.now) c.in_ok-non.non c.some_first_line.result c.see.ensures.pair c.requires (λ n loops. loops) (λ n rule of loops. loops) c.in_ok-non.ensures c.some_first_line.ensures
