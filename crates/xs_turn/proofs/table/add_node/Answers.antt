use Rattle.std.proofs.Common.{◌≡◌, ◌++◌, ◌∷◌, [], ℕ, ◌<◌, List, All, length, sym, ◌∙◌, ap, subst, arith}
use Rattle.std.proofs.lemmas.Grind.{common_steps}
use Rattle.xs_gram.specs.Grammar.{items, slots}
use Rattle.xs_gram.specs.Common.{made}
use Rattle.xs_tree.specs.Flat.{kids_at, trees_of}
use Rattle.xs_tree.proofs.Trees.{length-trees}
use Rattle.xs_turn.proofs.Nodes.{node_kids_there, node_made}
use Rattle.xs_turn.proofs.table.add_node.Goals as goal

pub node-requires : goal.node-requires
node-requires c =
    let g = c.args.g.now in
    let b = c.place_all.new.builder in
    let ks = c.place_all.new.kids.items in
    let sized : length c.set_length.new.kids.items ≡ length (slots (items c.args.g.now c.args.node.production)) = grind (arith, common_steps, c.requires.counts.1 c.args.node.production (omega arith)) in
    let long = c.in_ok-place_all.ensures.long c.if-not-branch.false ∙ sized in
    let there = node_kids_there g c.args.doc.now c.args.table.now c.args.node (trees_of b) ks c.requires.built.slots long (c.in_ok-place_all.ensures.kids c.if-not-branch.false) in
    let below = subst (λ n. All (λ kid. kid < n) ks) (length-trees b) there in
    subst (λ (l : List ℕ). All (λ kid. kid < length c.place_all.new.builder) l) (sym c.deref.ensures.value) below

pub returns-clause-made : goal.returns-clause-made
returns-clause-made c =
    let g = c.args.g.now in
    let b = c.place_all.new.builder in
    let ks = c.place_all.new.kids.items in
    let p = c.args.node.production in
    let sized : length c.set_length.new.kids.items ≡ length (slots (items c.args.g.now c.args.node.production)) = grind (arith, common_steps, c.requires.counts.1 c.args.node.production (omega arith)) in
    let long = c.in_ok-place_all.ensures.long c.if-not-branch.false ∙ sized in
    let new : trees_of c.node.new.self ≡ trees_of c.place_all.new.builder ++ made c.args.node.production (kids_at (trees_of c.place_all.new.builder) c.place_all.new.kids.items) ∷ [] =
    c.in_ok-number.ensures.means ∙ ap (λ (l : List ℕ). trees_of b ++ made p (kids_at (trees_of b) l) ∷ []) c.deref.ensures.value in
    node_made g c.args.doc.now c.args.table.now c.args.node (trees_of b) (trees_of c.node.new.self) ks c.in_ok-number.number c.requires.built.slots long
    (c.in_ok-place_all.ensures.kids c.if-not-branch.false) (c.in_ok-number.ensures.number ∙ sym (length-trees b)) new

pub place_all-requires-clause-rule : goal.place_all-requires-clause-rule
place_all-requires-clause-rule c = omega (arith, c.requires.counts.0)
