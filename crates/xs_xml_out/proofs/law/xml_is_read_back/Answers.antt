use Rattle.std.proofs.Common.{refl}
use Rattle.std.proofs.lemmas.Str.{chars-encodes}
use Rattle.xs_xml_out.specs.Written.{xml_chars}
use Rattle.xs_xml_out.proofs.ReadBack.{is_read_back}
use Rattle.xs_xml_out.proofs.Scalars.{xml_scalars, begins_with_tag}
use Rattle.xs_xml_out.proofs.law.xml_is_read_back.Goals as goal

pub returns-clause-read_back : goal.returns-clause-read_back
returns-clause-read_back c = is_read_back

pub returns-clause-decoded : goal.returns-clause-decoded
returns-clause-decoded c = λ names word are_names balanced. chars-encodes (xml_chars names word) (xml_scalars names are_names word balanced)

pub returns-clause-utf8 : goal.returns-clause-utf8
returns-clause-utf8 c = λ names word are_names balanced. (xml_chars names word, (xml_scalars names are_names word balanced, refl))

pub returns-clause-begins : goal.returns-clause-begins
returns-clause-begins c = begins_with_tag
