use Rattle.std.proofs.Common.{◌≡◌, ◌↔◌, ℕ, List, length, ◌∙◌, subst}
use Rattle.std.specs.Prelude.{Contains, IsTrue}
use Rattle.xs_class.proofs.Lists.{len_is}
use Rattle.xs_chart.specs.Charted.{items_of, item_from}
use Rattle.xs_gram.specs.Languages.{InLang}
use Rattle.xs_earley.specs.Running.{Running}
use Rattle.xs_earley.proofs.Steadiness.{at_rest_now}
use Rattle.xs_earley.proofs.Wholes.{whole_iff}
use Rattle.xs_earley.proofs.run.Run.whole.Goals as goal

pub returns : goal.returns
returns c g run =
    let i = c.self.inside in
    let rest = at_rest_now g _ _ c.self.view_is run in
    let iff = whole_iff g i.word.items i.chart.sets i.facts.ends.items rest.chart rest.facts.ends in
    let long : c.len.result ≡ length i.word.items = c.len.ensures ∙ len_is i.word in
    let at = subst (λ n. IsTrue c.has_any.result ↔ ((state : ℕ) × Contains c.deref.result.now state × Contains (items_of i.chart n) (item_from 0 state))) long c.has_any.ensures in
    let said = subst (λ (l : List ℕ). IsTrue c.has_any.result ↔ ((state : ℕ) × Contains l state × Contains (items_of i.chart (length i.word.items)) (item_from 0 state))) c.deref.ensures.value at in
    subst (λ (r : Running). IsTrue c.has_any.result ↔ InLang g r.word) c.self.view_is ((λ t. iff.0 (said.0 t)), (λ h. said.1 (iff.1 h)))
