use Rattle.xs_wf.specs.Nonterminals.{IsWordless, IsUnproductive}
use Rattle.xs_wf.proofs.Firsts.{first_line_is, none_from, rule_bound}
use Rattle.xs_wf.proofs.nonterminals.least_unproductive.Goals as goal

pub returns-clause-first : goal.returns-clause-first
returns-clause-first c =
    first_line_is c.args.two.now (IsWordless c.args.two.now) (IsUnproductive c.args.two.now) c.in_ok-non.non c.some_first_line.result c.see.ensures.pair c.requires (λ n wordless. wordless.1) (λ n rule of none. (rule_bound c.args.two.now.text c.see.ensures.text.range n rule of, none)) c.in_ok-non.ensures.first c.some_first_line.ensures

pub returns-clause-fine : goal.returns-clause-fine
returns-clause-fine c = λ none. c.in_ok-non.ensures.fine (none_from c.args.two.now c.in_ok-non.non c.some_first_line.result c.some_first_line.ensures none)
