use Rattle.std.proofs.Common.{◌≡◌, ◌∙◌, length, ap, arith}
use Rattle.xs_tree.proofs.Longer.{longer_none, longer_all}
use Rattle.xs_listing.proofs.Children.{rows_below}
use Rattle.xs_listing.proofs.Filling.{written_back}
use Rattle.xs_listing.proofs.Gathering.{gathers_all, gathered, can_place_next, step_on_next, length_placed}
use Rattle.xs_listing.proofs.kids.kids_of.Goals as goal

pub fronts-init : goal.fronts-init
fronts-init c =
    let same = c.items-items.ensures.items in
    let len = c.in_ok-resize.ensures.len in
    let count = c.slot_count.ensures in
    record {
      within = omega arith;
      long = omega arith;
      extends = longer_none c.args.builder.now;
      gathers = rw (ap length same) (gathers_all c.args.g.now c.args.doc.now c.args.forest.now c.requires.right c.args.alt.rule c.args.alt.left c.args.numbers.now c.args.builder.now c.resize.new.self.items c.requires.gather);
    }

pub first_step-step-requires-clause-below : goal.first_step-step-requires-clause-below
first_step-step-requires-clause-below c = rows_below c.args.g.now c.args.doc.now c.args.forest.now c.requires.right

pub place-requires : goal.place-requires
place-requires c = rw c.deref_mut.ensures.value (can_place_next c.args.g.now c.args.doc.now c.args.forest.now c.requires.right c.args.alt.rule c.args.alt.left c.args.numbers.now c.items-items.result.now c.items-items.ensures.items (c.requires.built.slots c.args.alt.rule) c.fronts.dot c.unwrap.result c.fronts.front c.index-items-dot.result c.first_step-step.result c.fronts.builder c.fronts.kids.items c.fronts-test.true c.fronts.invariant.within c.index-items-dot.is c.fronts.invariant.long c.fronts.invariant.gathers c.unwrap.ensures c.first_step-step.ensures)

pub fronts-preserved : goal.fronts-preserved
fronts-preserved c =
    let placed = rw c.deref_mut.ensures.value at c.in_ok-place.ensures in
    let next = step_on_next c.args.g.now c.args.doc.now c.args.forest.now c.requires.right c.args.alt.rule c.args.alt.left c.args.numbers.now c.items-items.result.now c.items-items.ensures.items (c.requires.built.slots c.args.alt.rule) c.fronts.dot c.unwrap.result c.fronts.front c.index-items-dot.result c.first_step-step.result c.fronts.builder c.fronts.kids.items c.fronts-test.true c.fronts.invariant.within c.index-items-dot.is c.fronts.invariant.long c.fronts.invariant.gathers c.unwrap.ensures c.first_step-step.ensures c.place.new.builder c.place.new.kids placed in
    let same : length c.place.new.kids ≡ length c.fronts.kids.items = length_placed c.args.doc.now c.args.numbers.now c.index-items-dot.result c.first_step-step.result c.fronts.builder c.place.new.builder c.fronts.kids.items c.place.new.kids placed in
    let back = written_back c.place.new.kids c.fronts.kids.items c.fronts.kids.len (omega arith) (omega arith) in
    record {
      within = (let within = c.fronts.invariant.within in omega arith);
      long = ap length back ∙ same ∙ c.fronts.invariant.long;
      extends = longer_all c.args.builder.now c.fronts.builder c.place.new.builder c.fronts.invariant.extends next.0;
      gathers = rw back next.1;
    }

pub returns-clause-kids : goal.returns-clause-kids
returns-clause-kids c =
    let none : c.fronts.dot ≡ 0 = omega arith in
    gathered c.args.g.now c.args.doc.now c.args.forest.now c.requires.right c.args.alt.rule c.args.alt.left c.args.numbers.now c.fronts.front c.fronts.builder c.fronts.kids.items (rw none at c.fronts.invariant.gathers)
