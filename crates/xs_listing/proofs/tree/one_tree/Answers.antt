use Rattle.xs_listing.proofs.Preparing.{root_ready, root_made, root_tree}
use Rattle.xs_listing.proofs.tree.one_tree.Goals as goal

pub number_rows-requires-clause-marked : goal.number_rows-requires-clause-marked
number_rows-requires-clause-marked c = rw c.deref.ensures.value (c.in_ok-marks.ensures.marked c.args.g.now c.args.doc.now c.requires.forest.right (root_ready c.args.g.now c.args.doc.now c.args.grown.now.forest c.requires.forest.right c.args.grown.now.root c.requires.forest.root_is c.requires.in_language))

pub finish-requires : goal.finish-requires
finish-requires c = (root_made c.args.g.now c.args.doc.now c.args.grown.now.forest c.requires.forest.right c.args.grown.now.root c.requires.forest.root_is c.deref.result.now c.number_rows.new.builder c.in_ok-numbers.numbers.items c.index.result.now c.in_ok-numbers.ensures.made c.in_ok-numbers.ensures.long (rw c.deref.ensures.value c.in_ok-marks.ensures.root) c.index.ensures).there

pub returns : goal.returns
returns c = rw (c.finish.ensures.parts, c.finish.ensures.root) (root_tree c.args.g.now c.args.doc.now c.args.grown.now.forest c.requires.forest.right c.args.grown.now.root c.requires.forest.root_is c.number_rows.new.builder c.index.result.now (root_ready c.args.g.now c.args.doc.now c.args.grown.now.forest c.requires.forest.right c.args.grown.now.root c.requires.forest.root_is c.requires.in_language) (root_made c.args.g.now c.args.doc.now c.args.grown.now.forest c.requires.forest.right c.args.grown.now.root c.requires.forest.root_is c.deref.result.now c.number_rows.new.builder c.in_ok-numbers.numbers.items c.index.result.now c.in_ok-numbers.ensures.made c.in_ok-numbers.ensures.long (rw c.deref.ensures.value c.in_ok-marks.ensures.root) c.index.ensures))
