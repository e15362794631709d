use Rattle.std.proofs.Common.{◌∙◌, sym, subst, map, ap, get_or}
use Rattle.std.proofs.lemmas.Bool.Decides.{Decides-eqb}
use Rattle.xs_tree.specs.Flat.{AreRising, trees_of}
use Rattle.xs_tree.specs.Tables.{AreNumbered, IsTable, part_of}
use Rattle.xs_tree.proofs.Numbering.{no_table, root_within, same_end}
use Rattle.xs_tree.proofs.compare.same.Goals as goal

pub numbers_of-requires : goal.numbers_of-requires
numbers_of-requires c = record {
  table = subst IsTable (sym (ap (map part_of) c.new-shapes.ensures.empty)) no_table;
  rising = subst AreRising (sym c.parts.ensures.parts) c.parts.ensures.flat.rising;
}

pub numbers_of-requires-2 : goal.numbers_of-requires-2
numbers_of-requires-2 c = record {
  table = c.in_ok-of_a.ensures.table;
  rising = subst AreRising (sym c.parts-2.ensures.parts) c.parts-2.ensures.flat.rising;
}

pub number_at-one-requires : goal.number_at-one-requires
number_at-one-requires c = root_within (map part_of c.numbers_of.new.shapes.keys) c.args.a.now c.in_ok-of_a.of_a.items c.deref.result.now c.root.result c.root.ensures.flat (subst (λ ps. AreNumbered (map part_of c.numbers_of.new.shapes.keys) (trees_of ps) c.in_ok-of_a.of_a.items) c.parts.ensures.parts c.in_ok-of_a.ensures.numbered) c.deref.ensures.value c.root.ensures.root

pub number_at-other-requires : goal.number_at-other-requires
number_at-other-requires c = root_within (map part_of c.numbers_of-2.new.shapes.keys) c.args.b.now c.in_ok-of_b.of_b.items c.deref-2.result.now c.root-2.result c.root-2.ensures.flat (subst (λ ps. AreNumbered (map part_of c.numbers_of-2.new.shapes.keys) (trees_of ps) c.in_ok-of_b.of_b.items) c.parts-2.ensures.parts c.in_ok-of_b.ensures.numbered) c.deref-2.ensures.value c.root-2.ensures.root

pub returns : goal.returns
returns c =
    let first = map part_of c.numbers_of.new.shapes.keys in
    let table = map part_of c.numbers_of-2.new.shapes.keys in
    let of_a = c.in_ok-of_a.of_a.items in
    let of_b = c.in_ok-of_b.of_b.items in
    let numbered_a = subst (λ ps. AreNumbered first (trees_of ps) of_a) c.parts.ensures.parts c.in_ok-of_a.ensures.numbered in
    let numbered_b = subst (λ ps. AreNumbered table (trees_of ps) of_b) c.parts-2.ensures.parts c.in_ok-of_b.ensures.numbered in
    let one_is = c.number_at-one.ensures ∙ ap (λ l. get_or l c.root.result 0) c.deref.ensures.value ∙ ap (λ r. get_or of_a r 0) c.root.ensures.root in
    let other_is = c.number_at-other.ensures ∙ ap (λ l. get_or l c.root-2.result 0) c.deref-2.ensures.value ∙ ap (λ r. get_or of_b r 0) c.root-2.ensures.root in
    same_end first table c.args.a.now c.args.b.now of_a of_b c.number_at-one.result c.number_at-other.result _ c.in_ok-of_b.ensures.table c.in_ok-of_b.ensures.extends c.root.ensures.flat c.root-2.ensures.flat numbered_a numbered_b one_is other_is
    (Decides-eqb c.number_at-one.result c.number_at-other.result)
