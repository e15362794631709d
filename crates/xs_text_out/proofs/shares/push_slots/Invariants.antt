use Rattle.std.proofs.Common.{◌≡◌, ◌++◌, drop}
use Rattle.xs_gram.specs.Grammar.{slots}
use Rattle.xs_text_out.proofs.shares.push_slots.Given as goal

abbrev pub invariant-items : goal.invariant-items
invariant-items l = l.list.items ++ slots (drop l.item-index l.items) ≡ l.initial.list.items ++ slots l.items
