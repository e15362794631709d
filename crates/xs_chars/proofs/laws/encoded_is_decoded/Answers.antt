use Rattle.std.proofs.Common.{refl}
use Rattle.std.proofs.lemmas.Str.{chars-encodes}
use Rattle.xs_chars.proofs.laws.encoded_is_decoded.Goals as goal

pub returns : goal.returns
returns c = λ w are. ((w, (are, refl)), chars-encodes w are)
