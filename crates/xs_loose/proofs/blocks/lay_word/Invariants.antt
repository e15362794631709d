use Rattle.std.proofs.Common.{◌≡◌, ◌<◌, take}
use Rattle.xs_auto.specs.Nets.{states}
use Rattle.xs_loose.specs.Arcs.{word_arcs, after_word}
use Rattle.xs_loose.specs.Growth.{NetGrows}
use Rattle.xs_loose.proofs.blocks.lay_word.Given as goal

abbrev pub invariant-symbols : goal.invariant-symbols
invariant-symbols l = record {
  from : l.from ≡ after_word (take l.place l.word) l.before l.at;
  low : l.from < states l.net;
  grows : NetGrows (word_arcs (take l.place l.word) l.before l.at) l.initial.net l.net;
}
