use Rattle.std.proofs.Common.{◌≡◌, drop, encode_utf8_all}
use Rattle.xs_form.proofs.marks.is_ascii_name.Given as goal

abbrev pub invariant-symbols : goal.invariant-symbols
invariant-symbols l = encode_utf8_all (drop l.symbol-index l.name) ≡ l.rest → encode_utf8_all l.name ≡ l.text
