use Rattle.std.proofs.Common.{length}
use Rattle.xs_outline.specs.Reader.{state, IsKept, IsRead}
use Rattle.xs_outline.proofs.reading.read_outline.Given as goal

abbrev pub invariant-lines : goal.invariant-lines
invariant-lines l = record {
  kept : IsKept l.two l.number l.reader;
  read : IsRead l.two l.doc l.rest l.number (state l.two l.reader);
}

abbrev pub decreases-lines : goal.decreases-lines
decreases-lines l = length l.rest
