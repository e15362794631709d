use Rattle.std.proofs.Common.{◌≡◌, ◌∙◌, refl, ap, arith}
use Rattle.std.proofs.lemmas.List.{get_or_read}
use Rattle.xs_gram.specs.Grammar.{Grammar, rule_of}
use Rattle.xs_tree.proofs.Trees.{length-trees}
use Rattle.xs_tree.specs.Flat.{trees_of}
use Rattle.xs_cover.specs.Tables.{at}
use Rattle.xs_cover.proofs.LeastTrees.{first_kids, shown_first, slot_there, next_kids, shown_next, shown_last}
use Rattle.xs_cover.proofs.covers.Covers.shown.Goals as goal

pub node-requires : goal.node-requires
node-requires c = rw c.deref-2.ensures.value (first_kids c.args.two.now c.args.self.now.tables c.in_ok-builder.field-0.numbers.items (trees_of c.in_ok-builder.field-0.builder) c.requires.sound c.in_ok-builder.ensures c.args.rule c.requires.rule c.requires.short c.in_ok-builder.field-0.builder refl c.place_kids.new.kids.items (rw c.deref.ensures.value at c.in_ok-place_kids.ensures))

pub steps-init : goal.steps-init
steps-init c =
    let places = c.args.self.now.tables.contexts.places.items in
    let non : c.non_of.result ≡ (rule_of c.args.two.now.text c.args.rule).non = c.non_of.ensures ∙ ap (λ (k : Grammar). (rule_of k c.args.rule).non) c.gram.ensures in
    let place : c.index-place.result.now ≡ at places (rule_of c.args.two.now.text c.args.rule).non = get_or_read places c.non_of.result c.index-place.result.now (omega (arith, non, c.requires.sound.text.built.range.rules c.args.rule c.requires.rule, c.requires.covers.complete.read.contexts.places_counted)) c.index-place.ensures 0 ∙ ap (λ k. at places k) non in
    shown_first c.args.two.now c.args.self.now.tables c.in_ok-builder.field-0.numbers.items (trees_of c.in_ok-builder.field-0.builder) c.requires.sound c.in_ok-builder.ensures c.args.rule c.requires.rule c.requires.short c.in_ok-builder.field-0.builder refl c.place_kids.new.kids.items (rw c.deref.ensures.value at c.in_ok-place_kids.ensures) c.node.new.self c.index-place.result.now c.in_ok-number.number place c.in_ok-number.ensures.number (rw c.deref-2.ensures.value at c.in_ok-number.ensures.means)

pub index_mut-requires : goal.index_mut-requires
index_mut-requires c = omega (arith, slot_there c.args.two.now c.args.self.now.tables c.in_ok-builder.field-0.numbers.items (trees_of c.in_ok-builder.field-0.builder) c.requires.sound c.in_ok-builder.ensures c.args.rule c.requires.rule c.requires.short c.steps.place c.steps.number c.steps.builder c.steps-test.true c.steps.invariant c.index-step.result.now c.index-step.ensures c.place_kids-in-steps.new.kids.items (rw c.deref-in-steps.ensures.value at c.in_ok-place_kids-2.ensures), c.place_kids-in-steps.new.kids.ok)

pub node-requires-in-steps : goal.node-requires-in-steps
node-requires-in-steps c = rw c.deref-in-steps-2.ensures.value (next_kids c.args.two.now c.args.self.now.tables c.in_ok-builder.field-0.numbers.items (trees_of c.in_ok-builder.field-0.builder) c.requires.sound c.in_ok-builder.ensures c.args.rule c.requires.rule c.requires.short c.steps.place c.steps.number c.steps.builder c.steps-test.true c.steps.invariant c.index-step.result.now c.index-step.ensures c.place_kids-in-steps.new.kids.items (rw c.deref-in-steps.ensures.value at c.in_ok-place_kids-2.ensures))

pub steps-preserved : goal.steps-preserved
steps-preserved c = shown_next c.args.two.now c.args.self.now.tables c.in_ok-builder.field-0.numbers.items (trees_of c.in_ok-builder.field-0.builder) c.requires.sound c.in_ok-builder.ensures c.args.rule c.requires.rule c.requires.short c.steps.place c.steps.number c.steps.builder c.steps-test.true c.steps.invariant c.index-step.result.now c.index-step.ensures c.place_kids-in-steps.new.kids.items (rw c.deref-in-steps.ensures.value at c.in_ok-place_kids-2.ensures) c.node-in-steps.new.self c.in_ok-number-2.number c.in_ok-number-2.ensures.number (rw c.deref-in-steps-2.ensures.value at c.in_ok-number-2.ensures.means)

pub finish-requires : goal.finish-requires
finish-requires c = omega (arith, c.steps.invariant.there, length-trees c.steps.builder)

pub returns : goal.returns
returns c = shown_last c.args.two.now c.args.self.now.tables c.in_ok-builder.field-0.numbers.items (trees_of c.in_ok-builder.field-0.builder) c.requires.sound c.in_ok-builder.ensures c.args.rule c.requires.rule c.requires.short c.steps.place c.steps.number c.steps.builder c.finish.result c.steps-test.false c.steps.invariant c.finish.ensures.parts c.finish.ensures.root
