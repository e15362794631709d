use Rattle.std.proofs.Common.{◌≤◌, ◌+◌, ◌-◌, length}
use Rattle.xs_io.proofs.Files.{BeginsFile}
use Rattle.xs_io.specs.Shown.{Touches}
use Rattle.xs_io.proofs.whole.read_file_pieces.Given as goal

abbrev pub invariant-pieces : goal.invariant-pieces
invariant-pieces g l = record {
  within : length l.bytes ≤ l.limit;
  given : g.H.Shelf.given l.shelf ≤ g.H.Shelf.given l.fn.shelf + length l.bytes;
  so_far : BeginsFile (g.H.Shelf.files l.fn.shelf) l.fn.name l.bytes;
  touched : Touches (g.H.Shelf.files l.fn.shelf) (g.H.Shelf.files l.shelf) l.fn.name (g.H.Shelf.faults l.fn.shelf) (g.H.Shelf.faults l.shelf) (g.H.Shelf.name_faults l.fn.shelf) (g.H.Shelf.name_faults l.shelf);
}

abbrev pub decreases-pieces : goal.decreases-pieces
decreases-pieces g l = l.limit - length l.bytes
