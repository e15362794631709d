use Rattle.std.proofs.Common.{◌≡◌, ◌+◌, ◌<◌, List, ℕ, [], ◌∷◌, ◌++◌, length, length-append, sym, subst, ap, arith, ◌∙◌}
use Rattle.xs_gram.specs.Grammar.{Grammar, term_of}
use Rattle.xs_regex.specs.declared.position.Position.{Position}
use Rattle.xs_cover.specs.Leaves.{word_at}
use Rattle.xs_cover.specs.Shortest.{HasShortWord, IsShortest}
use Rattle.xs_cover.specs.Tables.{at}
use Rattle.xs_cover.proofs.Existing.{short_word}
use Rattle.xs_cover.proofs.Starting.{costs_more, shortest_more}
use Rattle.xs_cover.proofs.leaves.Leaves.of.Goals as goal

pub least_word-requires-clause-some : goal.least_word-requires-clause-some
least_word-requires-clause-some c =
    let g = c.args.two.now.text in
    let there : c.terms.term < length g.terms = omega (arith, c.terms-term-end.ensures, ap (λ (k : Grammar). length k.terms) c.gram-g.ensures) in
    subst HasShortWord (sym (c.term.ensures ∙ ap (λ (k : Grammar). (term_of k c.terms.term).automaton) c.gram-g.ensures)) (short_word g c.requires.text c.terms.term there)

pub term_cost-requires : goal.term_cost-requires
term_cost-requires c =
    let g = c.args.two.now.text in
    let there : c.terms.term < length g.terms = omega (arith, c.terms-term-end.ensures, ap (λ (k : Grammar). length k.terms) c.gram-g.ensures) in
    let is : c.term.result.now ≡ (term_of g c.terms.term).automaton = c.term.ensures ∙ ap (λ (k : Grammar). (term_of k c.terms.term).automaton) c.gram-g.ensures in
    let short = short_word g c.requires.text c.terms.term there in
    let shortest : IsShortest (term_of g c.terms.term).automaton c.in_ok-word.word = subst (λ (a : Position). IsShortest a c.in_ok-word.word) is c.in_ok-word.ensures in
    omega (arith, shortest.shortest short.0 short.1, short.2)

pub terms-preserved : goal.terms-preserved
terms-preserved c =
    let g = c.args.two.now.text in
    let words : List (List ℕ) = c.terms.words.items in
    let costs : List ℕ = c.terms.costs.items in
    let w : List ℕ = c.in_ok-word.word in
    let cost = c.term_cost.result in
    let known = c.terms.invariant in
    let is : c.term.result.now ≡ (term_of g (length words)).automaton = c.term.ensures ∙ ap (λ (k : Grammar). (term_of k c.terms.term).automaton) c.gram-g.ensures ∙ ap (λ t. (term_of g t).automaton) (sym known.counted) in
    let shortest : IsShortest (term_of g (length words)).automaton w = subst (λ (a : Position). IsShortest a w) is c.in_ok-word.ensures in
    let new_words : c.push-in-terms.new.self.items ≡ words ++ w ∷ [] = c.in_ok-push-2.ensures.items in
    let new_costs : c.push.new.self.items ≡ costs ++ cost ∷ [] = c.in_ok-push.ensures.items in
    let all_shortest = shortest_more g words w (λ t below. known.shortest t (omega (arith, below, known.counted))) shortest in
    let all_costs = costs_more words costs w cost (known.costs_counted ∙ sym known.counted) (λ t below. known.costs_are t (omega (arith, below, known.counted))) c.term_cost.ensures in
    record {
      counted = ap length new_words ∙ length-append words (w ∷ []) ∙ ap (λ n. n + 1) known.counted;
      costs_counted = ap length new_costs ∙ length-append costs (cost ∷ []) ∙ ap (λ n. n + 1) known.costs_counted;
      shortest = λ t below. subst (λ (l : List (List ℕ)). IsShortest (term_of g t).automaton (word_at l t)) (sym new_words) (all_shortest t (omega (arith, below, known.counted)));
      costs_are = λ t below. subst (λ (l : List ℕ). at l t ≡ length (word_at c.push-in-terms.new.self.items t) + length (word_at c.push-in-terms.new.self.items t)) (sym new_costs)
          (subst (λ (l : List (List ℕ)). at (costs ++ cost ∷ []) t ≡ length (word_at l t) + length (word_at l t)) (sym new_words) (all_costs t (omega (arith, below, known.counted))));
    }
