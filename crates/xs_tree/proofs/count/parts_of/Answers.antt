use Rattle.std.proofs.Common.{◌<◌, ◌≤◌, ◌∙◌, arith, length, sym, subst, take}
use Rattle.xs_tree.specs.Flat.{AreRising, trees_of}
use Rattle.xs_tree.specs.Lent.{lent}
use Rattle.xs_tree.proofs.Trees.{part_ready}
use Rattle.xs_tree.proofs.Counting.{counts_long, counts_step, counted_end}
use Rattle.xs_tree.proofs.count.parts_of.Goals as goal

pub part_count-count-requires : goal.part_count-count-requires
part_count-count-requires c =
    let parts = c.parts-parts.result.now in
    let rising = subst AreRising (sym c.parts-parts.ensures.parts) c.parts-parts.ensures.flat.rising in
    let within : c.parts.i < length parts = omega arith in
    let long = counts_long c.deref.result.now parts c.parts.i within (c.deref.ensures.value ∙ c.parts.invariant) in
    part_ready parts c.deref.result.now c.parts.i (lent c.part.result) rising c.part.ensures long

pub parts-preserved : goal.parts-preserved
parts-preserved c =
    let parts = c.parts-parts.result.now in
    c.in_ok-push.ensures.items ∙ counts_step c.parts.counts.items parts c.parts.i (lent c.part.result) c.part_count-count.result c.part.ensures c.parts.invariant
    (c.part_count-count.ensures (trees_of (take c.parts.i parts)) (c.deref.ensures.value ∙ c.parts.invariant))

pub number_at-requires : goal.number_at-requires
number_at-requires c =
    let all : length c.parts-parts.result.now ≤ c.parts.i = omega arith in
    let end = counted_end c.args.tree.now c.deref-2.result.now c.parts-parts.result.now c.parts.i c.root.result c.root.ensures.flat c.parts-parts.ensures.parts c.root.ensures.root all (c.deref-2.ensures.value ∙ c.parts.invariant) in
    end.0

pub returns : goal.returns
returns c =
    let all : length c.parts-parts.result.now ≤ c.parts.i = omega arith in
    let end = counted_end c.args.tree.now c.deref-2.result.now c.parts-parts.result.now c.parts.i c.root.result c.root.ensures.flat c.parts-parts.ensures.parts c.root.ensures.root all (c.deref-2.ensures.value ∙ c.parts.invariant) in
    c.number_at.ensures ∙ end.1
