use Rattle.std.proofs.Common.{◌∙◌, ◌<◌, Some, ap, arith, sym}
use Rattle.xs_tree.specs.Flat.{trees_of, word_of}
use Rattle.xs_tree.specs.Lent.{lent}
use Rattle.xs_text_out.specs.Printed.{slot_word}
use Rattle.xs_text_out.proofs.Counting.{element_holds}
use Rattle.xs_text_out.proofs.Walking.{slot_leaf}
use Rattle.xs_text_out.proofs.walk.child_at.Goals as goal

pub returns-in-Leaf-clause-prints : goal.returns-in-Leaf-clause-prints
returns-in-Leaf-clause-prints c g are =
    let before : c.in-Some.kid < c.args.part = element_holds (λ k. k < c.args.part) c.kids-kids.result.now c.args.slot c.in-Some.kid c.kids-kids.ensures.before (sym c.in-Some.ensures) in
    ap (λ l. slot_word g (trees_of c.args.t.now.parts) l c.args.slot) (sym c.kids-kids.ensures.kids)
    ∙ slot_leaf g c.args.t.now c.kids-kids.result.now c.args.slot c.in-Some.kid c.in-Leaf.word.now c.requires.flat (omega (arith, before, c.requires.part)) c.in-Some.ensures (c.part.ensures.part ∙ ap (λ p. Some (lent p)) c.in-Leaf.is)

pub returns-else-lengths-kid-eq0-clause-node : goal.returns-else-lengths-kid-eq0-clause-node
returns-else-lengths-kid-eq0-clause-node c = record {
  before = element_holds (λ k. k < c.args.part) c.kids-kids.result.now c.args.slot c.in-Some.kid c.kids-kids.ensures.before (sym c.in-Some.ensures);
  node = sym (ap word_of (c.part.ensures.part ∙ ap (λ p. Some (lent p)) c.in-Node.is));
}
