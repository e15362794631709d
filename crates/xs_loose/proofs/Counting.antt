-- How many groups a grammar that was built has at most: each has a left fence of its own among the
-- symbols of fixed words.
use Rattle.std.proofs.Common.{◌≡◌, ℕ, zero, suc, ◌+◌, ◌<◌, ◌≤◌, Bool, true, false, List, [], ◌∷◌, ◌++◌, length, length-append, take, arith}
use Rattle.std.specs.List.{slice_index_or}
use Rattle.xs_gram.specs.declared.parts.GItem.{GItem}
use Rattle.xs_gram.specs.declared.parts.GItem.TheVariants.{Fixed, Term, Non, Skip}
use Rattle.xs_gram.specs.declared.parts.RulePart.{RulePart}
use Rattle.xs_gram.specs.Grammar.{Grammar, no_rule, items, fixed_symbols, symbols_count}
use Rattle.xs_gram.specs.Fences.{is_fence, after_word, split_word, spread_items}
use Rattle.xs_gram.specs.Sound.{IsBuilt}
use Rattle.xs_gram.specs.Spreading.{opens}
use Rattle.xs_loose.specs.Groups.{lefts, groups_before, groups_count}
use Rattle.xs_loose.proofs.Numbering.{one_if}

-- an item is at most one left fence
item_opens : (fs : List (ℕ × ℕ)) (i : GItem) (is : List GItem) → lefts fs (i ∷ is) ≤ suc (lefts fs is)
item_opens fs i is = elim (opens fs i) as (λ (b : Bool). one_if b (lefts fs is) ≤ suc (lefts fs is)) [
  | true ↦ omega arith
  | false ↦ omega arith
]

-- a rule has at most as many left fences as symbols of fixed words
word_opens : (fs : List (ℕ × ℕ)) (w : List ℕ) (is : List GItem) → lefts fs (after_word w is) ≤ length w + lefts fs is
word_opens fs [] is = omega arith
word_opens fs (s ∷ w) is = omega (arith, item_opens fs (Fixed (s ∷ w)) is)

split_opens : (fs : List (ℕ × ℕ)) (before w : List ℕ) (is : List GItem) → lefts fs (split_word fs before w is) ≤ length before + (length w + lefts fs is)
split_opens fs before [] is = omega (arith, word_opens fs before is)
split_opens fs before (s ∷ w) is =
    let fence = Fixed (s ∷ []) ∷ split_word fs [] w is in
    let t : lefts fs (after_word before fence) ≤ length before + (suc (length w) + lefts fs is) = omega (arith, word_opens fs before fence, item_opens fs (Fixed (s ∷ [])) (split_word fs [] w is), split_opens fs [] w is) in
    let f : lefts fs (split_word fs (before ++ s ∷ []) w is) ≤ length before + (suc (length w) + lefts fs is) = omega (arith, split_opens fs (before ++ s ∷ []) w is, length-append before (s ∷ [])) in
    elim (is_fence fs s) as (λ (b : Bool). lefts fs (elim b [ true ↦ after_word before (Fixed (s ∷ []) ∷ split_word fs [] w is) | false ↦ split_word fs (before ++ s ∷ []) w is ]) ≤ length before + (suc (length w) + lefts fs is)) [ true ↦ t | false ↦ f ]

rule_opens : (fs : List (ℕ × ℕ)) (is : List GItem) → lefts fs (spread_items fs is) ≤ fixed_symbols is
rule_opens fs [] = omega arith
rule_opens fs (Fixed w ∷ is) = omega (arith, split_opens fs [] w (spread_items fs is), rule_opens fs is)
rule_opens fs (Term t s ∷ is) = rule_opens fs is
rule_opens fs (Non n s ∷ is) = rule_opens fs is
rule_opens fs (Skip k ∷ is) = rule_opens fs is

-- and so has a grammar
symbols_next : (rs : List RulePart) (p : ℕ) → symbols_count (take (suc p) rs) ≡ symbols_count (take p rs) + fixed_symbols (slice_index_or rs p no_rule).items
symbols_next [] zero = omega arith
symbols_next [] (suc p) = omega arith
symbols_next (r ∷ rs) zero = omega arith
symbols_next (r ∷ rs) (suc p) = omega (arith, symbols_next rs p)

symbols_take : (rs : List RulePart) (p : ℕ) → symbols_count (take p rs) ≤ symbols_count rs
symbols_take [] zero = omega arith
symbols_take [] (suc p) = omega arith
symbols_take (r ∷ rs) zero = omega arith
symbols_take (r ∷ rs) (suc p) = omega (arith, symbols_take rs p)

before_opens : (g : Grammar) (p : ℕ) → groups_before g p ≤ symbols_count (take p g.rules)
before_opens g zero = omega arith
before_opens g (suc p) = omega (arith, before_opens g p, rule_opens g.fences (items g p), symbols_next g.rules p)

pub groups_few : (g : Grammar) → IsBuilt g → groups_count g < 65536
groups_few g built = omega (arith, before_opens g (length g.rules), symbols_take g.rules (length g.rules), built.small.symbols)
