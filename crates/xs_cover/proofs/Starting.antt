-- Before any nonterminal has a tree: the words of terminals.
use Rattle.std.proofs.Common.{◌≡◌, ℕ, ◌+◌, ◌<◌, List, [], ◌∷◌, ◌++◌, length, sym, subst, ◌∙◌, ap, arith, replicate}
use Rattle.std.proofs.lemmas.List.{get_or_append_left, length-replicate}
use Rattle.std.proofs.Math.Seq.{get_or-append_seam}
use Rattle.xs_gram.specs.Grammar.{Grammar, term_of}
use Rattle.xs_gram.specs.Common.{Common, of_term}
use Rattle.xs_cover.specs.Shortest.{IsShortest}
use Rattle.xs_cover.specs.Leaves.{word_at}
use Rattle.xs_cover.specs.Tables.{at}
use Rattle.xs_cover.specs.Prices.{Stands, HaveTrees}
use Rattle.xs_cover.proofs.Counting.{at_replicate, at_replicate_low}
use Rattle.xs_cover.proofs.Sweeping.{up_to}

-- no nonterminal has a tree
pub have_start : (g h : Grammar) (trees : List Common) (terms nons numbers : List ℕ) → length terms ≡ length g.terms → nons ≡ replicate g.nons 1000000000 → numbers ≡ replicate g.nons 0 → ((t : ℕ) → t < length g.terms → Stands g h trees (of_term t) (at terms t) t) → HaveTrees g h trees terms nons numbers
have_start g h trees terms nons numbers long full none leaves = record {
  terms_counted = long;
  nons_counted = ap length full ∙ length-replicate {A = ℕ} g.nons 1000000000;
  numbers_counted = ap length none ∙ length-replicate {A = ℕ} g.nons 0;
  low = λ n. omega (arith, ap (λ (l : List ℕ). at l n) full, at_replicate_low g.nons 1000000000 n);
  leaves = leaves;
  nodes = λ n there less. absurd (omega (arith, less, ap (λ (l : List ℕ). at l n) full, at_replicate g.nons 1000000000 n there));
}

-- one more terminal has its word
pub shortest_more : (g : Grammar) (words : List (List ℕ)) (w : List ℕ) → ((t : ℕ) → t < length words → IsShortest (term_of g t).automaton (word_at words t)) → IsShortest (term_of g (length words)).automaton w → (t : ℕ) → t < length words + 1 → IsShortest (term_of g t).automaton (word_at (words ++ w ∷ []) t)
shortest_more g words w known last t below = up_to (λ k. IsShortest (term_of g k).automaton (word_at (words ++ w ∷ []) k)) (length words) (λ k before. subst (λ v. IsShortest (term_of g k).automaton v) (sym (get_or_append_left words (w ∷ []) [] k before)) (known k before)) (subst (λ v. IsShortest (term_of g (length words)).automaton v) (sym (get_or-append_seam words w [] [])) last) t below

pub costs_more : (words : List (List ℕ)) (costs w : List ℕ) (cost : ℕ) → length costs ≡ length words → ((t : ℕ) → t < length words → at costs t ≡ length (word_at words t) + length (word_at words t)) → cost ≡ length w + length w → (t : ℕ) → t < length words + 1 → at (costs ++ cost ∷ []) t ≡ length (word_at (words ++ w ∷ []) t) + length (word_at (words ++ w ∷ []) t)
costs_more words costs w cost long known last t below = up_to (λ k. at (costs ++ cost ∷ []) k ≡ length (word_at (words ++ w ∷ []) k) + length (word_at (words ++ w ∷ []) k)) (length words) before here t below
  where
    before : (k : ℕ) → k < length words → at (costs ++ cost ∷ []) k ≡ length (word_at (words ++ w ∷ []) k) + length (word_at (words ++ w ∷ []) k)
    before k less = omega (arith, get_or_append_left costs (cost ∷ []) 0 k (omega (arith, less, long)), ap (λ v. length v) (get_or_append_left words (w ∷ []) [] k less), known k less)

    here : at (costs ++ cost ∷ []) (length words) ≡ length (word_at (words ++ w ∷ []) (length words)) + length (word_at (words ++ w ∷ []) (length words))
    here = omega (arith, ap (λ k. at (costs ++ cost ∷ []) k) long, get_or-append_seam costs cost [] 0, ap (λ v. length v) (get_or-append_seam words w [] []), last)
