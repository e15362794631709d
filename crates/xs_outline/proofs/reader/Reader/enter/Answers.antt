use Rattle.std.proofs.Common.{◌∙◌, refl, ap, subst, sym, arith}
use Rattle.std.proofs.lemmas.Result.{on_ok_weaker}
use Rattle.xs_gram.specs.Common.{word}
use Rattle.xs_tree.specs.Flat.{Leaf, tree_at, trees_of}
use Rattle.xs_outline.specs.Machine.{give, enter}
use Rattle.xs_outline.specs.Parsed.{entry_meant}
use Rattle.xs_outline.specs.Reader.{frames, IsFree}
use Rattle.xs_outline.proofs.Giving.{added_frames, added_kept, wider_kept, added_tree}
use Rattle.xs_outline.proofs.reader.Reader.enter.Goals as goal

pub give-requires-clause-kept : goal.give-requires-clause-kept
give-requires-clause-kept c = (c.args.number, added_kept c.args.two.now c.args.self.now _ (Leaf c.as_slice.result.now) c.args.number _ c.in_ok-part-in-Leaf.ensures.added c.in_ok-part-in-Leaf.ensures.means refl refl refl c.requires.root c.requires.kept)

pub give-requires-clause-free : goal.give-requires-clause-free
give-requires-clause-free c = subst (λ fs. IsFree fs c.args.slot) (sym (added_frames c.args.two.now c.args.self.now c.leaf.new.self c.args.number _ c.in_ok-part-in-Leaf.ensures.means c.requires.kept)) c.requires.free

pub returns-in_ok-part-in-Leaf-clause-state : goal.returns-in_ok-part-in-Leaf-clause-state
returns-in_ok-part-in-Leaf-clause-state c =
    let same = added_frames c.args.two.now c.args.self.now c.leaf.new.self c.args.number _ c.in_ok-part-in-Leaf.ensures.means c.requires.kept in
    let fs = frames c.args.two.now c.args.self.now in
    on_ok_weaker c.give.result (λ e. e ∙ ap (λ gs. give gs c.args.slot (tree_at (trees_of c.leaf.new.self) c.in_ok-part-in-Leaf.part)) same
    ∙ ap (give fs c.args.slot) (added_tree c.args.self.now.parts c.leaf.new.self c.in_ok-part-in-Leaf.part _ c.in_ok-part-in-Leaf.ensures.number c.in_ok-part-in-Leaf.ensures.means)
    ∙ ap (λ w. give fs c.args.slot (word w)) c.as_slice.ensures
    ∙ ap (λ e. enter c.args.two.now fs c.args.slot (entry_meant e)) (sym c.in-Leaf.is)) c.give.ensures.state

pub returns-in_ok-part-in-Leaf-clause-kept : goal.returns-in_ok-part-in-Leaf-clause-kept
returns-in_ok-part-in-Leaf-clause-kept c =
    on_ok_weaker c.give.result (λ f. wider_kept c.args.two.now c.give.new.self c.args.number _ (omega arith) (f c.args.number (added_kept c.args.two.now c.args.self.now _ (Leaf c.as_slice.result.now) c.args.number _ c.in_ok-part-in-Leaf.ensures.added c.in_ok-part-in-Leaf.ensures.means refl refl refl c.requires.root c.requires.kept))) c.give.ensures.kept
