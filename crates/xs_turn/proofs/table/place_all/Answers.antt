use Rattle.std.proofs.Common.{◌≡◌, ℕ, ◌+◌, ◌<◌, ◌≤◌, List, length, get_or, Some, refl, ◌∙◌, subst, arith}
use Rattle.std.proofs.lemmas.Option.{slice_get-get_or}
use Rattle.std.specs.Prelude.{slice_get}
use Rattle.xs_gram.specs.declared.parts.GItem.{GItem}
use Rattle.xs_gram.specs.Grammar.{items}
use Rattle.xs_parse_table.specs.declared.table.Node.{Node}
use Rattle.xs_tree.specs.Flat.{trees_of}
use Rattle.xs_turn.specs.Tables.{IsPlaced}
use Rattle.xs_turn.proofs.Kids.{grows_none, grows_all}
use Rattle.xs_turn.proofs.Nodes.{node_trees_grow, placed_grows, placed_long, gathers_none, gathers_step, gathered}
use Rattle.xs_turn.proofs.table.place_all.Goals as goal

pub items-init : goal.items-init
items-init c = record {
  long = refl;
  grows = grows_none (trees_of c.args.builder.now);
  earlier = c.requires.earlier;
  gathers = gathers_none c.args.g.now c.args.doc.now c.args.table.now c.args.numbers.now c.args.node (trees_of c.args.builder.now) c.args.kids.now.items;
}

pub items-preserved : goal.items-preserved
items-preserved c =
    let g = c.args.g.now in
    let doc = c.args.doc.now in
    let table = c.args.table.now in
    let node = c.args.node in
    let numbers = c.args.numbers.now in
    let item = c.index-items-dot.result in
    let xs = c.as_slice-parts.result.now in
    let at = node.parts + c.items.dot in
    let part = get_or xs at 0 in
    let to = c.in-Some.end in
    let a = trees_of c.items.builder in
    let b = trees_of c.place.new.builder in
    let ks = c.items.kids.items in
    let new = c.place.new.kids.items in
    let p : slice_get table.parts.items at ≡ Some part =
    subst (λ (ys : List ℕ). slice_get ys at ≡ Some part) c.as_slice-parts.ensures.value (slice_get-get_or xs at 0 (omega (arith, c.if-parts-begin.false, c.items-test.true))) in
    let ended = rw c.in-Some.is at c.in_ok-end.ensures in
    let placed = subst (λ (ns : List Node). IsPlaced doc ns numbers item c.items.at part a ks b new to) c.as_slice-nodes.ensures.value ended in
    let lt : c.items.dot < length (items g node.production) = subst (λ (l : List GItem). c.items.dot < length l) c.items-items.ensures.items c.items-test.true in
    let is = subst (λ (l : List GItem). item ≡ get_or l c.items.dot item) c.items-items.ensures.items c.index-items-dot.is in
    let more = placed_grows g doc table numbers item c.items.at part a ks b new to placed in
    record {
      long = placed_long g doc table numbers item c.items.at part a ks b new to placed ∙ c.items.invariant.long;
      grows = grows_all (trees_of c.args.builder.now) a b c.items.invariant.grows more;
      earlier = node_trees_grow g doc table a b numbers more c.items.invariant.earlier;
      gathers = gathers_step g doc table numbers node c.items.dot c.items.at to part item a ks b new (c.requires.built.slots node.production) lt is p placed c.items.invariant.earlier c.items.invariant.gathers;
    }

pub returns-clause-kids : goal.returns-clause-kids
returns-clause-kids c = λ t.
    let le : length (items c.args.g.now c.args.node.production) ≤ c.items.dot = subst (λ (l : List GItem). length l ≤ c.items.dot) c.items-items.ensures.items c.items-test.false in
    gathered c.args.g.now c.args.doc.now c.args.table.now c.args.numbers.now c.args.node c.items.dot c.items.at (trees_of c.items.builder) c.items.kids.items le c.items.invariant.gathers
