use Rattle.xs_xml_laws.proofs.Cutting.{one_word}
use Rattle.xs_xml_laws.proofs.one_word.Goals as goal

pub returns : goal.returns
returns c = one_word
