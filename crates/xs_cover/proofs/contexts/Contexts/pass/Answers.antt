use Rattle.std.proofs.Common.{◌≡◌, List, ℕ, ap, ◌∙◌}
use Rattle.xs_gram.specs.Grammar.{Grammar, rule_of}
use Rattle.xs_cover.specs.declared.contexts.Passing.{Passing}
use Rattle.xs_cover.specs.Tables.{at}
use Rattle.xs_cover.proofs.Stepping.{passed_of}
use Rattle.xs_cover.proofs.contexts.Contexts.pass.Goals as goal

pub returns-clause-passed : goal.returns-clause-passed
returns-clause-passed c = λ same.
    let arounds = c.args.self.now.arounds.items in
    let f : Passing = record { rule = c.args.rule; parent = c.index.result.now; around = c.number_at-around.result; cost = c.rule_cost.result } in
    let around : c.number_at-around.result ≡ at arounds (rule_of c.args.two.now.text c.args.rule).non =
    c.number_at-around.ensures ∙ ap (λ (l : List ℕ). at l c.non_of-non.result) c.deref.ensures.value ∙ ap (λ k. at arounds k) (c.non_of-non.ensures ∙ ap (λ (g : Grammar). (rule_of g c.args.rule).non) c.gram.ensures) in
    passed_of c.args.two.now.text c.args.two.now.xml c.args.prices.now arounds f around c.rule_cost.ensures (c.in_ok-lowered.ensures.passed same)
