use Rattle.std.proofs.Common.{◌≡◌, length}
use Rattle.xs_script.specs.Playing.{IsPlaying}
use Rattle.xs_script.proofs.playing.play.Given as goal

abbrev pub invariant-lines : goal.invariant-lines
invariant-lines l = record {
  pair : l.draft.pair ≡ l.two;
  playing : IsPlaying l.two l.script l.rest l.number l.out l.draft.document;
}

abbrev pub decreases-lines : goal.decreases-lines
decreases-lines l = length l.rest
