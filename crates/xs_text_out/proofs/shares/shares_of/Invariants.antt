use Rattle.std.proofs.Common.{◌≡◌, ◌<◌, ℕ, [], length, get_or}
use Rattle.xs_gram.specs.Grammar.{items, slots}
use Rattle.xs_tree.specs.Counts.{capped}
use Rattle.xs_text_out.specs.Shares.{own_lengths}
use Rattle.xs_text_out.proofs.shares.shares_of.Given as goal

abbrev pub invariant-rules : goal.invariant-rules
invariant-rules l = record {
  owns_counted : length l.owns.items ≡ l.rule;
  slots_counted : length l.slots ≡ l.rule;
  owns : (p : ℕ) → p < l.rule → get_or l.owns.items p 0 ≡ capped (own_lengths l.g (items l.g p));
  slots_are : (p : ℕ) → p < l.rule → get_or l.slots p [] ≡ slots (items l.g p);
}
