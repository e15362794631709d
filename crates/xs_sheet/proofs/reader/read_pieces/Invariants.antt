use Rattle.std.proofs.Common.{◌≡◌, drop}
use Rattle.xs_sheet.specs.Machine as M
use Rattle.xs_sheet.specs.View.{state_view, StateHasRegexes}
use Rattle.xs_sheet.proofs.reader.read_pieces.Given as goal

abbrev pub invariant-pieces : goal.invariant-pieces
invariant-pieces l = record {
  regexes : StateHasRegexes l.state;
  so_far : M.run M.begin l.pieces ≡ M.run (state_view l.state) (drop l.piece-index l.pieces);
}
