use Rattle.std.proofs.Common.{ℕ, List, subst}
use Rattle.std.proofs.lemmas.Result.{err_from_is_err_and}
use Rattle.xs_tree.specs.Flat.{common_of}
use Rattle.xs_outline.specs.Outline.{IsOutline}
use Rattle.xs_top.proofs.Writing.{fits_both}
use Rattle.xs_top.proofs.Reading.{outline_stops}
use Rattle.xs_top.proofs.Only.{made_of}
use Rattle.xs_top.proofs.outlined.made_of_outline.Goals as goal

pub written-requires-clause-fits : goal.written-requires-clause-fits
written-requires-clause-fits c = fits_both c.args.two.now (common_of c.in_ok-tree.tree) c.requires.sound c.in_ok-tree.ensures.fits

pub returns-in_err-tree-clause-stop : goal.returns-in_err-tree-clause-stop
returns-in_err-tree-clause-stop c =
    let fault = err_from_is_err_and c.from_residual-in_err-tree.result c.from_residual-in_err-tree.ensures.1 in
    rw (fault.1, fault.2) (outline_stops c.args.two.now c.args.bytes.now c.in_ok-characters.characters _ c.in_ok-characters.ensures.text c.in_err-tree.ensures.bad)

pub returns-clause-answer : goal.returns-clause-answer
returns-clause-answer c =
    let tree = common_of c.in_ok-tree.tree in
    let read = c.in_ok-characters.ensures.text in
    let outline = subst (λ (w : List ℕ). IsOutline c.args.two.now w tree) read.word c.in_ok-tree.ensures.tree in
    made_of c.one_word.ensures c.args.two.now c.requires.sure c.args.to tree c.args.bytes.now c.in_ok-document.document (record { utf8 = read.utf8; outline = outline }) c.in_ok-document.ensures
