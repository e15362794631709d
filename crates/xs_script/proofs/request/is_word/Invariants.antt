use Rattle.std.proofs.Common.{◌≡◌, take}
use Rattle.xs_script.proofs.request.is_word.Given as goal

abbrev pub invariant-symbols : goal.invariant-symbols
invariant-symbols l = take l.place l.text ≡ take l.place l.word
