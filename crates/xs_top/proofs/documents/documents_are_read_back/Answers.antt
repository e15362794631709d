use Rattle.xs_top.proofs.Reading.{documents_read}
use Rattle.xs_top.proofs.documents.documents_are_read_back.Goals as goal

pub returns : goal.returns
returns c =
    let xml = c.xml_is_read_back.ensures in
    documents_read c.text_is_read_back.ensures xml.read_back xml.decoded xml.utf8 xml.begins c.args.names.now c.ordered.ensures
