use Rattle.std.proofs.Common.{◌≡◌, ◌+◌, List, drop}
use Rattle.xs_gram.specs.Common.{Common}
use Rattle.xs_gram.specs.Grammar.{Grammar}
use Rattle.xs_tree.specs.Counts.{capped}
use Rattle.xs_text_out.specs.Printed.{AreLengths, slot_word}
use Rattle.xs_text_out.specs.Shares.{slots_length}
use Rattle.xs_text_out.proofs.lengths.children_length.Given as goal

abbrev pub invariant-slots : goal.invariant-slots
invariant-slots l = record {
  so_far : (g : Grammar) (trees : List Common) → AreLengths g trees l.lengths → capped (l.length + slots_length (slot_word g trees l.kids) (drop l.slot-index l.slots)) ≡ capped (l.beside + slots_length (slot_word g trees l.kids) l.slots);
  small : capped l.length ≡ l.length;
}
