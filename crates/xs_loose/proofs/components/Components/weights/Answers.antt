use Rattle.std.proofs.Common.{◌≡◌, ℕ, List, [], length, ap, ◌∙◌, arith}
use Rattle.std.proofs.lemmas.List.{get_or_read, with_items_is}
use Rattle.xs_loose.proofs.Summing.{members_within, weights_more}
use Rattle.xs_loose.proofs.components.Components.weights.Goals as goal

pub component_weight-weight-requires-clause-members : goal.component_weight-weight-requires-clause-members
component_weight-weight-requires-clause-members c =
    let lists = c.args.self.now in
    let k = c.components.component in
    let at = c.as_slice-members.ensures ∙ get_or_read lists.members.items k c.index.result.now (omega (arith, c.components-test.true)) c.index.ensures [] in
    rw at (c.requires.lists.members k)

pub component_weight-weight-requires-clause-rules : goal.component_weight-weight-requires-clause-rules
component_weight-weight-requires-clause-rules c =
    let lists = c.args.self.now in
    let k = c.components.component in
    let at = c.as_slice-rules.ensures ∙ get_or_read lists.rules.items k c.index-in-components.result.now (omega (arith, c.components-test.true, c.requires.lists.counted)) c.index-in-components.ensures [] in
    rw at (c.requires.lists.rules k)

pub set_each-requires : goal.set_each-requires
set_each-requires c =
    let lists = c.args.self.now in
    let k = c.components.component in
    let at = c.as_slice-members.ensures ∙ get_or_read lists.members.items k c.index.result.now (omega (arith, c.components-test.true)) c.index.ensures [] in
    rw c.deref_mut.ensures.value (members_within c.args.g.now c.args.comps.now k c.as_slice-members.result.now c.components.weights.items (rw at (c.requires.lists.members k)) c.components.invariant.counted)

pub components-preserved : goal.components-preserved
components-preserved c =
    let lists = c.args.self.now in
    let k = c.components.component in
    let at = c.as_slice-members.ensures ∙ get_or_read lists.members.items k c.index.result.now (omega (arith, c.components-test.true)) c.index.ensures [] in
    let long : length c.set_each.new.weights ≡ length c.components.weights.items = c.set_each.ensures.length ∙ ap (λ (l : List ℕ). length l) c.deref_mut.ensures.value in
    let kept = rw c.deref_mut.ensures.value at c.set_each.ensures.kept in
    rw (with_items_is c.components.weights c.set_each.new.weights (omega (arith, long, c.components.weights.ok.0))) (weights_more c.args.g.now c.args.comps.now k c.component_weight-weight.result c.as_slice-members.result.now c.components.weights.items c.set_each.new.weights (rw at (c.requires.lists.members k)) c.components.invariant c.component_weight-weight.ensures long c.set_each.ensures.set kept)
