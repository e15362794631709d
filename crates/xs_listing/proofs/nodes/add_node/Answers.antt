use Rattle.std.proofs.Common.{◌≡◌, ◌<◌, ◌++◌, ◌∷◌, [], length, List, ℕ, All, sym, ◌∙◌, ap, subst}
use Rattle.xs_tree.specs.Flat.{TreePart, Node}
use Rattle.xs_listing.specs.Making.{IsMade}
use Rattle.xs_listing.proofs.Preparing.{rule_there, can_gather, kids_before, node_made}
use Rattle.xs_listing.proofs.nodes.add_node.Goals as goal

pub kids_of-requires-clause-rule : goal.kids_of-requires-clause-rule
kids_of-requires-clause-rule c = rule_there c.args.g.now c.args.doc.now c.args.forest.now c.requires.right c.args.builder.now c.args.numbers.now c.args.row c.requires.can c.first_alt-alt.result c.first_alt-alt.ensures

pub kids_of-requires-clause-gather : goal.kids_of-requires-clause-gather
kids_of-requires-clause-gather c = can_gather c.args.g.now c.args.doc.now c.args.forest.now c.requires.right c.args.builder.now c.args.numbers.now c.args.row c.requires.can c.first_alt-alt.result c.first_alt-alt.ensures

pub node-requires : goal.node-requires
node-requires c =
    subst (λ (l : List ℕ). All (λ kid. kid < length c.kids_of.new.builder) l) (sym c.deref.ensures.value)
    (kids_before c.args.g.now c.args.doc.now c.args.forest.now c.requires.right c.args.builder.now c.args.numbers.now c.args.row c.requires.can c.first_alt-alt.result c.first_alt-alt.ensures c.kids_of.new.builder c.kids_of.new.kids.items c.requires.built.slots c.in_ok-kids_of.ensures.long c.in_ok-kids_of.ensures.kids)

pub returns-clause-made : goal.returns-clause-made
returns-clause-made c =
    let m = node_made c.args.g.now c.args.doc.now c.args.forest.now c.requires.right c.args.builder.now c.args.numbers.now c.args.row c.requires.can c.first_alt-alt.result c.first_alt-alt.ensures c.kids_of.new.builder c.kids_of.new.kids.items c.requires.built.slots c.in_ok-kids_of.ensures.long c.in_ok-kids_of.ensures.kids in
    let new : c.node.new.self ≡ c.kids_of.new.builder ++ Node c.first_alt-alt.result.rule c.kids_of.new.kids.items ∷ [] = c.in_ok-number.ensures.added ∙ ap (λ (l : List ℕ). c.kids_of.new.builder ++ Node c.first_alt-alt.result.rule l ∷ []) c.deref.ensures.value in
    subst (λ (l : List TreePart). IsMade c.args.g.now c.args.doc.now c.args.forest.now l c.args.row c.in_ok-number.number) (sym new)
    (subst (λ n. IsMade c.args.g.now c.args.doc.now c.args.forest.now (c.kids_of.new.builder ++ Node c.first_alt-alt.result.rule c.kids_of.new.kids.items ∷ []) c.args.row n) (sym c.in_ok-number.ensures.number) m)
