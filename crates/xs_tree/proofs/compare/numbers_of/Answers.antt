use Rattle.std.proofs.Common.{◌≤◌, ◌∙◌, ap, arith, map, length}
use Rattle.xs_tree.specs.Lent.{lent}
use Rattle.xs_tree.specs.Tables.{part_of}
use Rattle.xs_tree.proofs.Trees.{part_ready}
use Rattle.xs_tree.proofs.Numbering.{numbered_long, one_more_item, so_far_first, so_far_end}
use Rattle.xs_tree.proofs.compare.numbers_of.Goals as goal

pub shape_of-requires-in-parts : goal.shape_of-requires-in-parts
shape_of-requires-in-parts c =
    let within : c.parts.i ≤ length c.args.parts.now = omega arith in
    let long = numbered_long (map part_of c.parts.shapes.keys) c.args.parts.now c.parts.numbers.items c.parts.i within c.parts.invariant.numbered in
    part_ready c.args.parts.now c.deref.result.now c.parts.i (lent c.part.result) c.requires.rising c.part.ensures (ap length c.deref.ensures.value ∙ long)

pub parts-init : goal.parts-init
parts-init c = so_far_first (map part_of c.args.shapes.now.keys) c.args.parts.now c.in_ok-numbers.numbers.items c.requires.table c.in_ok-numbers.ensures.items

pub parts-preserved : goal.parts-preserved
parts-preserved c =
    one_more_item (map part_of c.args.shapes.now.keys) (map part_of c.parts.shapes.keys) (map part_of c.number_of.new.shapes.keys) c.args.parts.now c.parts.numbers.items c.deref.result.now c.push.new.self.items
    c.parts.i c.in_ok-number.number (lent c.part.result) (part_of c.in_ok-shape.shape) c.parts.invariant c.requires.rising c.part.ensures c.deref.ensures.value c.in_ok-shape.ensures
    c.in_ok-number.ensures.grown c.in_ok-number.ensures.stored c.in_ok-number.ensures.different c.in_ok-push.ensures.items

pub returns-clause-numbered : goal.returns-clause-numbered
returns-clause-numbered c =
    let all : length c.args.parts.now ≤ c.parts.i = omega arith in
    so_far_end (map part_of c.args.shapes.now.keys) (map part_of c.parts.shapes.keys) c.args.parts.now c.parts.numbers.items c.parts.i c.parts.invariant all

pub returns-clause-extends : goal.returns-clause-extends
returns-clause-extends c = c.parts.invariant.goes_on

pub returns-clause-table : goal.returns-clause-table
returns-clause-table c = c.parts.invariant.is_table
