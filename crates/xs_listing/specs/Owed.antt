-- How many parts the tasks of a derivation are still to write.
use Rattle.std.specs.Prelude.{◌≡◌, ℕ, ◌+◌, List, [], ◌∷◌, Some}
use Rattle.xs_forest_laws.specs.Forest.{Unfolding, item_of, read}
use Rattle.xs_forest_laws.specs.Number.{At}
use Rattle.xs_tree.specs.Counts.{capped}
use Rattle.xs_listing.specs.declared.write.Source.{Source}
use Rattle.xs_listing.specs.declared.write.Task.{Task}
use Rattle.xs_listing.specs.declared.write.Task.TheVariants.{Visit, Word, Close}
use Rattle.xs_listing.specs.Sizes.{spelt_count, word_count}

-- the task is still to write that many parts
abbrev pub Owes : Source → Task → ℕ → Type 0
Owes s (Visit r k) n = (u : Unfolding) × At s.forest.now s.cap s.counts.now (Some r) k u × (n ≡ spelt_count (read s.g.now s.doc.now s.forest.now (Some r) u))
Owes s (Word p d i j) n = n ≡ word_count (item_of s.g.now p d)
Owes s (Close q from) n = n ≡ 1

-- all the tasks are
abbrev pub AllOwe : Source → List Task → ℕ → Type 0
AllOwe s [] n = n ≡ 0
AllOwe s (t ∷ ts) n = (a : ℕ) × (b : ℕ) × Owes s t a × AllOwe s ts b × (n ≡ a + b)

-- Where that many parts of a task are counted, the tasks that it leaves owe the others, as far as 2^64 less 1.
abbrev pub IsCountedOff : Source → Task → List Task → List Task → ℕ → Type 0
IsCountedOff s task old new count = (owed rest : ℕ) → Owes s task owed → AllOwe s old rest → (left : ℕ) × AllOwe s new left × (capped (count + left) ≡ capped (owed + rest))
