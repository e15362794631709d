use Rattle.xs_table_out.proofs.Spellings.{word_writes}
use Rattle.xs_table_out.proofs.text.TextBytesWriter.put_word.Goals as goal

pub returns-clause-put : goal.returns-clause-put
returns-clause-put c = λ done rest. word_writes c.args.word.now c.args.self.now.bytes.items c.append_utf8.new.bytes.items rest (c.in_ok-done.ensures.put done)
