use Rattle.std.proofs.Common.{◌≡◌, length}
use Rattle.xs_text_out.specs.Pieces.{AreRows, AreWithin}
use Rattle.xs_text_out.proofs.pieces.pieces_of.Given as goal

abbrev pub invariant-rules : goal.invariant-rules
invariant-rules l = record {
  long : length l.rows.items ≡ l.rule;
  within : AreWithin l.text.items l.all.items;
  rows : AreRows l.g l.text.items l.all.items l.rows.items;
}
