use Rattle.std.proofs.Common.{◌≡◌, ◌≤◌, ◌++◌, ℕ, List, length, drop}
use Rattle.xs_gram.specs.Common.{spelling}
use Rattle.xs_text_out.specs.Pieces.{AreWithin, GoesOn, open_word}
use Rattle.xs_text_out.proofs.pieces.push_row.Given as goal

abbrev pub invariant-items : goal.invariant-items
invariant-items l = record {
  pieces_on : GoesOn l.initial.all.items l.all.items;
  text_on : GoesOn l.initial.text.items l.text.items;
  starts : l.begin ≤ length l.text.items;
  within : AreWithin l.text.items l.all.items;
  so_far : (at : ℕ → List ℕ) → open_word l.text.items l.all.items (length l.initial.all.items) l.begin at ++ spelling l.g (drop l.item-index l.items) at ≡ spelling l.g l.items at;
}
