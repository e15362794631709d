use Rattle.std.proofs.Common.{◌≡◌, ◌∙◌, ◌<◌, ap, length, arith}
use Rattle.xs_gram.specs.Grammar.{Grammar}
use Rattle.xs_wf.proofs.Firsts.{has_first_rule}
use Rattle.xs_wf.proofs.nonterminals.first_line.Goals as goal

pub unreachable-requires : goal.unreachable-requires
unreachable-requires c =
    let (k, first) = has_first_rule c.args.two.now c.see.ensures.pair c.args.non c.requires in
    let low : k < length c.args.two.now.text.rules = first.of.0 in
    let end : c.rules-rule-end.result ≡ length c.args.two.now.text.rules = c.rules-rule-end.ensures ∙ ap (λ (g : Grammar). length g.rules) c.gram-gram.ensures in
    let past = c.rules-test.false in
    c.rules.invariant k (omega arith) first.of
