use Rattle.std.proofs.Common.{◌≡◌, length, drop}
use Rattle.xs_gram.specs.Grammar.{slots}
use Rattle.xs_cover.specs.Prices.{placed}
use Rattle.xs_cover.proofs.trees.place_kids.Given as goal

abbrev pub invariant-items : goal.invariant-items
invariant-items l = record {
  so_far : placed l.numbers l.kids.items (drop l.item-index l.items) ≡ placed l.numbers l.initial.kids.items l.items;
  long : length l.kids.items ≡ length (slots l.items);
}
