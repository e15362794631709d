use Rattle.std.proofs.Common.{length, refl}
use Rattle.std.specs.Str.{chars}
use Rattle.std.proofs.lemmas.Result.{on_ok_weaker}
use Rattle.xs_outline.specs.Lines.{leaf_word, line}
use Rattle.xs_outline.proofs.Walking.{leaf_can, leaf_step, line_grows}
use Rattle.xs_outline.proofs.writer.push_leaf_part.Goals as goal

pub push_leaf-requires : goal.push_leaf-requires
push_leaf-requires c = leaf_can c.args.two.now c.args.tree.now c.args.child.part c.args.word.now c.requires.flat c.requires.part c.requires.word c.requires.can

pub returns-clause-longer : goal.returns-clause-longer
returns-clause-longer c = on_ok_weaker _ (λ written. line_grows c.args.page.now c.push_leaf.new.page (line (length c.args.tasks.now) (chars c.args.child.name.now) (leaf_word c.args.word.now)) written) c.push_leaf.ensures

pub returns-clause-writes : goal.returns-clause-writes
returns-clause-writes c =
    on_ok_weaker _ (λ written. leaf_step c.args.two.now c.args.tree.now c.args.child.part (length c.args.tasks.now) (chars c.args.child.name.now) c.args.word.now c.args.page.now c.push_leaf.new.page c.args.tasks.now c.requires.flat c.requires.part c.requires.word refl written) c.push_leaf.ensures
