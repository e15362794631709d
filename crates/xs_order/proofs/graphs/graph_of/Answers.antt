use Rattle.std.proofs.Common.{◌≡◌, ◌<◌, ℕ, List, [], set, ap, subst, ◌∙◌, arith, length}
use Rattle.std.proofs.lemmas.List.{get_or_read}
use Rattle.xs_order.specs.Graphs.{IsGraphTo}
use Rattle.xs_order.proofs.Edges.{graph_none, graph_more}
use Rattle.xs_order.proofs.graphs.graph_of.Goals as goal

pub rules-init : goal.rules-init
rules-init c = graph_none c.args.g.now c.args.targets.now c.in_ok-rows.rows.items (rw c.nons.ensures at c.in_ok-rows.ensures.blank)

pub rules-preserved : goal.rules-preserved
rules-preserved c =
    let g = c.args.g.now in
    let rows = c.rules.rows.items in
    let before : c.rules.rule < length g.rules = omega (arith, c.rules-test.true, c.rules-rule-end.ensures) in
    let low : c.non_of-non.result < length rows = omega (arith, c.non_of-non.ensures, c.requires.range.rules c.rules.rule before, c.rules.invariant.counted) in
    let list = c.as_slice.ensures ∙ get_or_read c.args.targets.now c.rules.rule c.index-targets-rule.result (omega (arith, before, c.requires.rules)) c.index-targets-rule.is [] in
    graph_more g c.args.targets.now rows _ c.rules.rule c.non_of-non.result c.index_mut-row.result.now c.as_slice.result.now c.non_of-non.ensures low (get_or_read rows c.non_of-non.result _ low c.index_mut-row.ensures.value []) list (ap (λ (row : List ℕ). set rows c.non_of-non.result row) c.in_ok-extend.ensures) c.rules.invariant

pub returns-clause-graph : goal.returns-clause-graph
returns-clause-graph c =
    let all : c.rules.rule ≡ length c.args.g.now.rules = omega (arith, c.rules-test.false, c.rules-rule-end.ensures) in
    rw c.from_vec.ensures (subst (λ (k : ℕ). IsGraphTo c.args.g.now c.args.targets.now k c.rules.rows.items) all c.rules.invariant)

pub returns-clause-few : goal.returns-clause-few
returns-clause-few c = omega (arith, ap length c.from_vec.ensures, c.rules.invariant.counted, c.in_ok-rows.ensures.few, c.in_ok-rows.ensures.blank.counted, c.nons.ensures)
