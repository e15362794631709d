use Rattle.std.proofs.Common.{◌≡◌, ◌∙◌, sym, subst, arith}
use Rattle.std.specs.Str.{chars}
use Rattle.std.proofs.lemmas.List.{take_all}
use Rattle.std.proofs.lemmas.Str.{chars-IsAscii}
use Rattle.xs_chars.specs.Text.{AreCharacters}
use Rattle.xs_chars.proofs.Characters.{utf8_characters}
use Rattle.xs_chars.proofs.strings.ascii_word.Goals as goal

is_word : (c : goal.After-from_vec) → c.from_vec.result ≡ chars c.args.text.now
is_word c =
    c.from_vec.ensures ∙ c.bytes.invariant.so_far
    ∙ take_all c.bytes.byte-index c.as_bytes-bytes.result.now (omega arith)
    ∙ c.as_bytes-bytes.ensures.value ∙ sym (chars-IsAscii c.args.text.now c.requires)

pub returns-clause-word : goal.returns-clause-word
returns-clause-word c = is_word c

pub returns-clause-characters : goal.returns-clause-characters
returns-clause-characters c = subst AreCharacters (sym (is_word c)) (utf8_characters c.args.text.now c.utf8.text)
