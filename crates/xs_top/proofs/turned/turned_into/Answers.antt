use Rattle.std.proofs.Common.{◌∙◌, ℕ, List, ap, sym, subst}
use Rattle.xs_table_out.specs.Documents.{document_bytes}
use Rattle.xs_top.specs.Documents.{IsDocument, CanWrite, AreReadBack}
use Rattle.xs_top.proofs.Writing.{can_write_print, rewritten}
use Rattle.xs_top.proofs.turned.turned_into.Goals as goal

pub write_document-requires-clause-word : goal.write_document-requires-clause-word
write_document-requires-clause-word c =
    let p = c.args.two.now in
    let word = rw c.in-Print.is at c.in_ok-document.ensures.rewritten in
    let fits = word.fits c.requires.sound.same c.requires.sound.starts in
    subst (λ (names : List (List ℕ)). CanWrite names c.args.to c.in-Print.word) (sym c.names-in-Print.ensures)
    (can_write_print c.printed_has_tree.ensures p word.tree c.in-Print.word c.requires.sound c.requires.writable fits c.args.to word.printed)

pub returns-in-Written-clause-answer : goal.returns-in-Written-clause-answer
returns-in-Written-clause-answer c =
    let p = c.args.two.now in
    let (word, translated, is) = rw c.in-Written.is at c.in_ok-document.ensures.rewritten in
    let law = subst (λ (names : List (List ℕ)). AreReadBack names) c.names.ensures c.documents_are_read_back.ensures in
    let document = subst (λ (names : List (List ℕ)). IsDocument c.args.from c.args.form names c.args.bytes.now c.in_ok-doc.doc) c.names-2.ensures c.in_ok-doc.ensures.document in
    rewritten c.printed_has_tree.ensures c.prints_normal.ensures p c.requires.sound c.requires.writable law c.args.from c.args.to c.args.form c.args.bytes.now c.in-Written.document c.in_ok-doc.doc word document translated is

pub returns-clause-answer : goal.returns-clause-answer
returns-clause-answer c =
    let p = c.args.two.now in
    let translated = rw c.in-Print.is at c.in_ok-document.ensures.rewritten in
    let law = subst (λ (names : List (List ℕ)). AreReadBack names) c.names.ensures c.documents_are_read_back.ensures in
    let document = subst (λ (names : List (List ℕ)). IsDocument c.args.from c.args.form names c.args.bytes.now c.in_ok-doc.doc) c.names-2.ensures c.in_ok-doc.ensures.document in
    let is = c.in_ok-document-in-Print.ensures.bytes ∙ ap (λ (names : List (List ℕ)). document_bytes c.args.to names c.in-Print.word) c.names-in-Print.ensures in
    rewritten c.printed_has_tree.ensures c.prints_normal.ensures p c.requires.sound c.requires.writable law c.args.from c.args.to c.args.form c.args.bytes.now c.in_ok-document-in-Print.document c.in_ok-doc.doc c.in-Print.word document translated is
