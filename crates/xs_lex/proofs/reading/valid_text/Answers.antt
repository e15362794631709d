use Rattle.std.proofs.Common.{◌∙◌, sym, ap, take, length, List, ℕ, arith}
use Rattle.std.proofs.lemmas.List.{take_all}
use Rattle.std.proofs.lemmas.Str.{utf8_valid_len-IsUtf8}
use Rattle.xs_lex.proofs.reading.valid_text.Goals as goal

pub returns-in-Ok : goal.returns-in-Ok
returns-in-Ok c =
    let bytes : List ℕ = c.args.bytes.now in
    let e = c.in-Ok.ensures.cases in
    e.0 ∙ sym (ap (λ (n : ℕ). take n bytes) (utf8_valid_len-IsUtf8 bytes e.1) ∙ take_all (length bytes) bytes (omega arith))
