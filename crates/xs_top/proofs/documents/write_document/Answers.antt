use Rattle.std.proofs.Common.{◌∙◌, ap, sym}
use Rattle.xs_class.specs.declared.side.Side.{Side}
use Rattle.xs_table_out.specs.Documents.{document_bytes}
use Rattle.xs_top.proofs.Reading.{document_reads}
use Rattle.xs_top.proofs.documents.write_document.Goals as goal

pub returns-in_ok-bytes-in-Text-clause-reads : goal.returns-in_ok-bytes-in-Text-clause-reads
returns-in_ok-bytes-in-Text-clause-reads c =
    document_reads c.args.names.now c.documents_are_read_back.ensures c.args.side c.in_ok-bytes-in-Text.bytes c.args.word.now c.requires.names c.requires.word
    (c.in_ok-bytes-in-Text.ensures ∙ ap (λ (s : Side). document_bytes s c.args.names.now c.args.word.now) (sym c.in-Text.is))

pub returns-in_ok-bytes-in-Xml-clause-reads : goal.returns-in_ok-bytes-in-Xml-clause-reads
returns-in_ok-bytes-in-Xml-clause-reads c =
    document_reads c.args.names.now c.documents_are_read_back.ensures c.args.side c.in_ok-bytes-in-Xml.bytes c.args.word.now c.requires.names c.requires.word
    (c.in_ok-bytes-in-Xml.ensures.written ∙ ap (λ (s : Side). document_bytes s c.args.names.now c.args.word.now) (sym c.in-Xml.is))
