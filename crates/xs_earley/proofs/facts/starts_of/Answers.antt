use Rattle.std.proofs.Common.{◌≡◌, ◌<◌, ◌∙◌, ◌+◌, ℕ, List, [], ◌∷◌, ◌++◌, length, get_or, set, sym, ap, subst, arith}
use Rattle.std.proofs.lemmas.List.{get_or_default}
use Rattle.xs_chart_laws.proofs.Numbers.{first_place}
use Rattle.xs_earley.specs.Starts.{AreStarts}
use Rattle.xs_earley.proofs.Tables.{starts_more}
use Rattle.xs_earley.proofs.facts.starts_of.Goals as goal

pub number-state-requires : goal.number-state-requires
number-state-requires c = first_place c.args.g.now c.rules.rule (omega arith)

pub rules-preserved : goal.rules-preserved
rules-preserved c =
    let rows = c.rules.rows.items in
    let count = c.rules.rule in
    let m = c.non_of.result in
    let lt : count < length c.args.g.now.rules = omega arith in
    let within : m < c.args.g.now.nons = subst (λ n. n < c.args.g.now.nons) (sym c.non_of.ensures) (c.requires.built.range.rules count lt) in
    let there : m < length rows = subst (λ n. m < n) (sym c.rules.invariant.counted) within in
    let row : c.index_mut-row.result.now ≡ get_or rows m [] = c.index_mut-row.ensures.value ∙ get_or_default rows m c.index_mut-row.result.now [] there in
    let new : c.push.new.self ≡ get_or rows m [] ++ c.number-state.result ∷ [] = c.in_ok-push.ensures.ok ∙ ap (λ (l : List ℕ). l ++ c.number-state.result ∷ []) row in
    subst (λ (l : List ℕ). AreStarts c.args.g.now (count + 1) (set rows m l)) (sym new) (starts_more c.args.g.now count m c.number-state.result rows lt c.non_of.ensures within c.number-state.ensures.found c.number-state.ensures.once c.rules.invariant)

pub returns : goal.returns
returns c =
    let g = c.args.g.now in
    let e : c.rules.rule ≡ length g.rules = omega arith in
    subst (λ n. AreStarts g n c.rules.rows.items) e c.rules.invariant
