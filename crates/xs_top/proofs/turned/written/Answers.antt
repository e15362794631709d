use Rattle.std.proofs.Common.{◌∙◌, ℕ, List, ap, sym, subst}
use Rattle.xs_gram.specs.Grammar.{Grammar}
use Rattle.xs_gram.specs.Common.{print}
use Rattle.xs_tree.specs.Flat.{common_of}
use Rattle.xs_top.specs.Documents.{CanWrite}
use Rattle.xs_top.proofs.Writing.{can_write_print, written_tree}
use Rattle.xs_top.proofs.turned.written.Goals as goal

pub write_document-requires-clause-word : goal.write_document-requires-clause-word
write_document-requires-clause-word c =
    let tree = common_of c.args.tree.now in
    let printed = c.in_ok-word.ensures ∙ ap (λ (g : Grammar). print g tree) c.gram.ensures in
    subst (λ (names : List (List ℕ)). CanWrite names c.args.to c.in_ok-word.word) (sym c.names.ensures)
    (can_write_print c.printed_has_tree.ensures c.args.two.now tree c.in_ok-word.word c.requires.sound c.requires.writable c.requires.fits c.args.to printed)

pub returns : goal.returns
returns c =
    let tree = common_of c.args.tree.now in
    let printed = c.in_ok-word.ensures ∙ ap (λ (g : Grammar). print g tree) c.gram.ensures in
    written_tree c.printed_has_tree.ensures c.args.two.now c.requires.sound c.args.to tree c.requires.fits _ c.in_ok-word.word c.in_ok-bytes.bytes c.names.ensures printed c.in_ok-bytes.ensures.bytes c.in_ok-bytes.ensures.reads
