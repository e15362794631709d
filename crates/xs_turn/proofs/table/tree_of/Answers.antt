use Rattle.std.proofs.Common.{◌<◌, List, length, ◌∙◌, ap, arith}
use Rattle.xs_tree.specs.Flat.{TreePart, tree_at, trees_of}
use Rattle.xs_tree.proofs.Trees.{length-trees}
use Rattle.xs_turn.proofs.Nodes.{root_there, root_tree}
use Rattle.xs_turn.proofs.table.tree_of.Goals as goal

pub finish-requires : goal.finish-requires
finish-requires c =
    let b = c.number_nodes.new.builder in
    let long = rw c.in-Some.is at c.in_ok-numbers.ensures.long in
    let are = rw c.in-Some.is at c.in_ok-numbers.ensures.numbered in
    let some : 0 < length c.as_slice-list.result.now = omega arith in
    let there = root_there c.args.g.now c.args.doc.now c.args.table.now (trees_of b) c.in-Some.numbers.items c.as_slice-list.result.now are long c.as_slice-list.ensures.value some in
    let trees = length-trees b in
    omega arith

pub returns : goal.returns
returns c = λ d is derives.
    let b = c.number_nodes.new.builder in
    let long = rw c.in-Some.is at c.in_ok-numbers.ensures.long in
    let are = rw c.in-Some.is at c.in_ok-numbers.ensures.numbered in
    let some : 0 < length c.as_slice-list.result.now = omega arith in
    ap (λ (l : List TreePart). tree_at (trees_of l) c.finish.result.root) c.finish.ensures.parts ∙ ap (tree_at (trees_of b)) c.finish.ensures.root
    ∙ root_tree c.args.g.now c.args.doc.now c.args.table.now (trees_of b) c.in-Some.numbers.items c.as_slice-list.result.now are long c.as_slice-list.ensures.value some d is derives
