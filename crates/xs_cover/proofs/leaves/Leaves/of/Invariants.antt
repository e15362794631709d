use Rattle.std.proofs.Common.{◌≡◌, ◌+◌, ◌<◌, ℕ, length}
use Rattle.xs_gram.specs.Grammar.{term_of}
use Rattle.xs_cover.specs.Leaves.{word_at}
use Rattle.xs_cover.specs.Shortest.{IsShortest}
use Rattle.xs_cover.specs.Tables.{at}
use Rattle.xs_cover.proofs.leaves.Leaves.of.Given as goal

abbrev pub invariant-terms : goal.invariant-terms
invariant-terms l = record {
  counted : length l.words.items ≡ l.term;
  costs_counted : length l.costs.items ≡ l.term;
  shortest : (t : ℕ) → t < l.term → IsShortest (term_of l.two.text t).automaton (word_at l.words.items t);
  costs_are : (t : ℕ) → t < l.term → at l.costs.items t ≡ length (word_at l.words.items t) + length (word_at l.words.items t);
}
