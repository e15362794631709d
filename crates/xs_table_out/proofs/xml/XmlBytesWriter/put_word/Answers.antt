use Rattle.xs_xml_out.proofs.Appended.{appended_rest}
use Rattle.xs_table_out.proofs.xml.XmlBytesWriter.put_word.Goals as goal

pub returns-clause-put : goal.returns-clause-put
returns-clause-put c = λ done rest.
    let is = rw c.in-Some.is at c.in_ok-after.ensures.put in
    appended_rest c.args.self.now.spellings.now.tags c.args.self.now.mode c.in-Some.after c.args.word.now c.args.self.now.bytes.items c.put_characters.new.out.items rest (is c.args.self.now.spellings.now.tags)
